-- Words of a slave with a new alias.
use Rattle.std.proofs.Common.{◌≡◌, ℕ, ◌%◌, ◌<◌, List, length, slice_index, set, get_or, not, IsTrue, ◌==◌, ◌↔◌, [], ◌∷◌, ◌++◌, Option, Some, None, Result, Ok, Err, refl, sym, ap, ap₂, ◌∙◌, arith, get_or-set_same, get_or-set_other, length-set, append_assoc}
use Rattle.std.proofs.lemmas.Bool.{eqb-true, eq-eqb}
use Rattle.std.specs.Result.{OnOk}
use Rattle.std.specs.declared.alloc.AllocError.{AllocError}
use Rattle.sii_words.specs.declared.run.Run.{Run}
use Rattle.sii_words.specs.Run.{stretches}
use Rattle.sii_words.proofs.StretchLaws.{stretches-two_words}
use Rattle.std.proofs.lemmas.List.{set-set, set_comm}
use Rattle.sii_words.specs.Words.{alias_of}
use Rattle.sii_words.specs.Identity.{identity_of}
use Rattle.sii_words.specs.declared.identity.Identity.{Identity}
use Rattle.sii_words.specs.CheckByte.{check_byte_of, IsChecked}
use Rattle.sii_words.proofs.CheckByteLaws.{check_byte_of-set}
use Rattle.sii_edit.specs.declared.command.Expect.{Expect}
use Rattle.sii_edit.specs.declared.slave_words.Name.{Name}
use Rattle.sii_edit.specs.Alias.{with_alias, with_low_byte}
use Rattle.sii_edit.specs.Draft.{named, named_as}
use Rattle.sii_edit.specs.Guard.{is_other, is_same}

pub length-named : (words : List ℕ) (name : Name) → length (named words name) ≡ length words
length-named words name = omega (arith, length-set {A = ℕ})

-- a second alias in word 4
alias_again : (words : List ℕ) (name : Name) (alias : ℕ) → set (named words name) 4 alias ≡ set (set words 4 alias) 7 name.seven
alias_again words name alias =
    set_comm (set words 4 name.alias) 7 4 name.seven alias (omega arith) ∙ ap (λ (ws : List ℕ). set ws 7 name.seven) (set-set words 4 name.alias alias)

-- the second of two aliases stays
pub named-again : (words : List ℕ) (first name : Name) → named (named words first) name ≡ named words name
named-again words first name =
    ap (λ (ws : List ℕ). set ws 7 name.seven) (alias_again words first name.alias) ∙ set-set (set words 4 name.alias) 7 first.seven name.seven

seven_named : (words : List ℕ) (name : Name) → 7 < length words → slice_index (named words name) 7 ≡ name.seven
seven_named words name long = get_or-set_same (set words 4 name.alias) 7 name.seven 0 (omega (arith, length-set words 4 name.alias))

pub alias_named : (words : List ℕ) (name : Name) → 7 < length words → alias_of (named words name) ≡ name.alias
alias_named words name long = get_or-set_other (set words 4 name.alias) 7 4 name.seven 0 (omega arith) ∙ get_or-set_same words 4 name.alias 0 (omega arith)

check_byte_named : (words : List ℕ) (name : Name) → check_byte_of (named words name) ≡ check_byte_of (set words 4 name.alias)
check_byte_named words name = check_byte_of-set (set words 4 name.alias) 7 name.seven (omega arith)

-- whether the check byte is right, one way and the other
pub checked_named : (words : List ℕ) (name : Name) → 7 < length words → name.seven % 256 ≡ check_byte_of (set words 4 name.alias) → IsChecked (named words name)
checked_named words name long right = rw (seven_named words name long, check_byte_named words name) right

pub checked_from_named : (words : List ℕ) (name : Name) → 7 < length words → IsChecked (named words name) → name.seven % 256 ≡ check_byte_of (set words 4 name.alias)
checked_from_named words name long checked = rw (seven_named words name long, check_byte_named words name) at checked

-- the words behind word 7 stay
after_named : (words : List ℕ) (name : Name) (at : ℕ) → 7 < at → slice_index (named words name) at ≡ slice_index words at
after_named words name at after =
    get_or-set_other (set words 4 name.alias) 7 at name.seven 0 (omega arith) ∙ get_or-set_other words 4 at name.alias 0 (omega arith)

identity_named : (words : List ℕ) (name : Name) → identity_of (named words name) ≡ identity_of words
identity_named words name =
    rw (
      after_named words name 8 (omega arith),
      after_named words name 9 (omega arith),
      after_named words name 10 (omega arith),
      after_named words name 11 (omega arith),
      after_named words name 12 (omega arith),
      after_named words name 13 (omega arith),
      after_named words name 14 (omega arith),
      after_named words name 15 (omega arith),
    ) refl

-- a new alias doesn't change the identity of the slave
pub is_other-named : (expect : Option Expect) (words : List ℕ) (name : Option Name) → is_other expect words ≡ is_other expect (named_as words name)
is_other-named expect words None = refl
is_other-named None words (Some name) = refl
is_other-named (Some expect) words (Some name) = ap (λ (identity : Identity). not (is_same expect identity)) (sym (identity_named words name))

-- the check byte that goes with another alias
pub with_alias-named : (words : List ℕ) (first : Option Name) (name : Name) (seven : ℕ) → 7 < length words → seven ≡ slice_index (named_as words first) 7
    → name.seven ≡ with_low_byte seven (check_byte_of (set words 4 name.alias)) → named (named_as words first) name ≡ with_alias (named_as words first) name.alias
with_alias-named words None name seven long is made = ap (λ (word : ℕ). set (set words 4 name.alias) 7 word) (made ∙ ap (λ (word : ℕ). with_low_byte word (check_byte_of (set words 4 name.alias))) is)
with_alias-named words (Some first) name seven long is made =
    let same : check_byte_of (set (named words first) 4 name.alias) ≡ check_byte_of (set words 4 name.alias) =
    ap check_byte_of (alias_again words first name.alias) ∙ check_byte_of-set (set words 4 name.alias) 7 first.seven (omega arith) in
    ap (λ (word : ℕ). set (set (named words first) 4 name.alias) 7 word) (made ∙ ap₂ (λ (word byte : ℕ). with_low_byte word byte) is (sym same))

-- word 7 as it is
pub seven_of-named : (words : List ℕ) (name : Name) → 7 < length words → name.seven ≡ slice_index (named words name) 7
seven_of-named words name long = sym (seven_named words name long)

pub checked_test : (words : List ℕ) (name : Name) (byte : ℕ) → 7 < length words → byte ≡ check_byte_of (set words 4 name.alias)
    → IsTrue (name.seven % 256 == byte) ↔ IsChecked (named words name)
checked_test words name byte long is =
    (λ test. checked_named words name long (equal_from_test (name.seven % 256) byte test ∙ is), λ checked. test_from_equal (name.seven % 256) byte (checked_from_named words name long checked ∙ sym is))
  where
    equal_from_test : (a b : ℕ) → IsTrue (a == b) → a ≡ b
    equal_from_test a b test = eqb-true a b test

    test_from_equal : (a b : ℕ) → a ≡ b → IsTrue (a == b)
    test_from_equal a b same = eq-eqb a b same

-- the runs of words 4 and 7
pub two_words : (slave : ℕ) (words : List ℕ) (name : Name) (before once after : List Run) (result : Result (Unit {0}) AllocError) → 7 < length words
    → once ≡ before ++ stretches slave 4 (get_or words 4 0 ∷ []) (name.alias ∷ [])
    → OnOk result (after ≡ once ++ stretches slave 7 (get_or words 7 0 ∷ []) (name.seven ∷ []))
    → OnOk result (after ≡ before ++ stretches slave 0 words (named words name))
two_words slave words name before once after (Ok done) long first second =
    second ∙ ap (λ (runs : List Run). runs ++ stretches slave 7 (get_or words 7 0 ∷ []) (name.seven ∷ [])) first
    ∙ append_assoc before (stretches slave 4 (get_or words 4 0 ∷ []) (name.alias ∷ [])) (stretches slave 7 (get_or words 7 0 ∷ []) (name.seven ∷ []))
    ∙ ap (λ (runs : List Run). before ++ runs) (sym (stretches-two_words slave name.alias name.seven words long))
two_words slave words name before once after (Err error) long first second = second
