-- Edits keep how many words a slave has.
use Rattle.std.proofs.Common.{◌≡◌, ◌≤◌, ℕ, nat_lt, false, List, ◌++◌, length, take, drop, Result, Ok, Err, Option, refl, arith, length-append, length-drop}
use Rattle.std.proofs.lemmas.Bool.{ltb-false}
use Rattle.std.proofs.lemmas.List.{length-take-le}
use Rattle.sii_cats.specs.Chain.{Member, chain_words}
use Rattle.sii_cats.specs.steps.Chain.{members_of}
use Rattle.sii_cats.specs.Splice.{chain_end, closing, with_chain}
use Rattle.sii_edit.specs.declared.command.Expect.{Expect}
use Rattle.sii_edit.specs.declared.command.Edit.{Edit}
use Rattle.sii_edit.specs.declared.command.Edit.TheVariants.{Alias, Category, Image}
use Rattle.sii_edit.specs.Category.{exchanged, is_too_long, if_read, rechained}
use Rattle.sii_edit.specs.Image.{with_front}
use Rattle.sii_edit.specs.Command.{causes_against, words_after}
use Rattle.sii_edit.proofs.AliasLaws.{length-with_alias}
use Rattle.sii_edit.proofs.UnlessLaws.{NoneHolds}
use Rattle.sii_cats.proofs.Edits.{length-closing}

pub length-with_front : (words front : List ℕ) → length front ≤ length words → length (with_front words front) ≡ length words
length-with_front words front fits = omega (arith, length-append front (drop (length front) words), length-drop (length front) words)

pub length-with_chain : (words : List ℕ) (ms : List Member) → chain_end ms ≤ length words → length (with_chain words ms) ≡ length words
length-with_chain words ms fits =
    let front : List ℕ = take 64 words ++ chain_words ms in
    omega (arith, length-append front (closing (drop (length front) words)), length-append (take 64 words) (chain_words ms), length-take-le 64 words (omega arith), length-closing (drop (length front) words), length-drop (length front) words)

pub within : (size limit : ℕ) → nat_lt limit size ≡ false → size ≤ limit
within size limit fits = ltb-false limit size fits

pub length-rechained : (kind : ℕ) (content words : List ℕ) (read : Result (List Member) (List ℕ)) → if_read read (is_too_long words kind content) ≡ false → length (rechained kind content words read) ≡ length words
length-rechained kind content words (Ok ms) fits = length-with_chain words (exchanged kind content ms) (within (chain_end (exchanged kind content ms)) (length words) fits)
length-rechained kind content words (Err rest) fits = refl

pub length-words_after : (expect : Option Expect) (edit : Edit) (words : List ℕ) → NoneHolds (causes_against expect edit words) → length (words_after edit words) ≡ length words
length-words_after expect (Alias slave value) words accepted = length-with_alias words value
length-words_after expect (Category slave kind content) words accepted = length-rechained kind content words (members_of words) accepted.1.1.1.1.0
length-words_after expect (Image slave image) words accepted = length-with_front words image (within (length image) (length words) accepted.0)
