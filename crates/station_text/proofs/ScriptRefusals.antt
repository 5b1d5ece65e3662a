-- Tables that spell no command, no edit or no expectation.
use Rattle.std.proofs.Common.{◌≡◌, ℕ, ◌∷◌, [], List, false, length, map, codes, Option, Some, None, Result, Ok, Err, inl, inr, refl, sym, subst, ◌∙◌}
use Rattle.std.proofs.lemmas.Bool.{false≢true}
use Rattle.std.specs.List.{AllZip}
use Rattle.std.specs.Prelude.{IsSome, IsSomeAnd}
use Rattle.hex.specs.Hex.{decode_of}
use Rattle.toml.specs.Data.{Data, Members, as_table, get_member}
use Rattle.toml.specs.View.{view}
use Rattle.toml.specs.declared.value.Value.{Value}
use Rattle.sii_words.specs.Words.{bytes_of}
use Rattle.sii_edit.specs.declared.command.Expect.{Expect}
use Rattle.station_text.specs.Document.{HasOnly, IsNumberBelow, has_only, is_known, table_at, text_at, values_at}
use Rattle.station_text.specs.ScriptText.{SpellsAlias, SpellsCategory, SpellsEdit, SpellsExpect, SpellsGroup, SpellsGuard, SpellsGuarded, SpellsGuards, SpellsImage, SpellsOneGuarded, SpellsKind, SpellsSwap, SpellsTableCommand}
use Rattle.station_text.specs.ScriptText.{SpellsAlone, first_of}
use Rattle.station_text.specs.declared.script_command.ScriptCommand.{ScriptCommand}
use Rattle.station_text.specs.declared.script_command.ScriptCommand.TheVariants.{One, Swap, Group}
use Rattle.station_text.specs.declared.script_command.ScriptEdit.{ScriptEdit}
use Rattle.station_text.specs.declared.script_command.ScriptEdit.TheVariants.{Alias, Category, Image}
use Rattle.station_text.specs.declared.script_command.ScriptGroupEdit.{ScriptGroupEdit}
use Rattle.station_text.proofs.Keys.{unknown_at}
use Rattle.station_text.specs.Reading.{Reads}
use Rattle.station_text.proofs.Readings.{said_as, same_count}

-- a table with other known keys spells no edit at this key
absent_kind : (known : List (List ℕ)) (key : List ℕ) (Spells : Members → ScriptEdit → Type 0) (table : Members) (edit : ScriptEdit) → HasOnly known table → is_known known key ≡ false → SpellsKind key Spells table edit → ⊥
absent_kind known key Spells table edit only unknown spelt = rw (unknown_at known key table only unknown) at spelt.1

absent_edit : (known : List (List ℕ)) (table : Members) (edit : ScriptEdit) → HasOnly known table → is_known known (codes "alias") ≡ false → is_known known (codes "category") ≡ false → is_known known (codes "image") ≡ false → SpellsEdit table edit → ⊥
absent_edit known table edit only alias category image (inl spelt) = absent_kind known (codes "alias") SpellsAlias table edit only alias spelt
absent_edit known table edit only alias category image (inr (inl spelt)) = absent_kind known (codes "category") SpellsCategory table edit only category spelt
absent_edit known table edit only alias category image (inr (inr spelt)) = absent_kind known (codes "image") SpellsImage table edit only image spelt

-- ---- an edit, by the one key of a kind

pub alias_alone : (table : Members) → HasOnly (codes "alias" ∷ codes "expect" ∷ []) table → (edit : ScriptEdit) → SpellsEdit table edit → IsSomeAnd (table_at (codes "alias") table) (λ fields. SpellsAlias fields edit)
alias_alone table only edit (inl spelt) = spelt.1
alias_alone table only edit (inr (inl spelt)) = absurd (absent_kind (codes "alias" ∷ codes "expect" ∷ []) (codes "category") SpellsCategory table edit only refl spelt)
alias_alone table only edit (inr (inr spelt)) = absurd (absent_kind (codes "alias" ∷ codes "expect" ∷ []) (codes "image") SpellsImage table edit only refl spelt)

pub category_alone : (table : Members) → HasOnly (codes "category" ∷ codes "expect" ∷ []) table → (edit : ScriptEdit) → SpellsEdit table edit → IsSomeAnd (table_at (codes "category") table) (λ fields. SpellsCategory fields edit)
category_alone table only edit (inl spelt) = absurd (absent_kind (codes "category" ∷ codes "expect" ∷ []) (codes "alias") SpellsAlias table edit only refl spelt)
category_alone table only edit (inr (inl spelt)) = spelt.1
category_alone table only edit (inr (inr spelt)) = absurd (absent_kind (codes "category" ∷ codes "expect" ∷ []) (codes "image") SpellsImage table edit only refl spelt)

pub image_alone : (table : Members) → HasOnly (codes "image" ∷ codes "expect" ∷ []) table → (edit : ScriptEdit) → SpellsEdit table edit → IsSomeAnd (table_at (codes "image") table) (λ fields. SpellsImage fields edit)
image_alone table only edit (inl spelt) = absurd (absent_kind (codes "image" ∷ codes "expect" ∷ []) (codes "alias") SpellsAlias table edit only refl spelt)
image_alone table only edit (inr (inl spelt)) = absurd (absent_kind (codes "image" ∷ codes "expect" ∷ []) (codes "category") SpellsCategory table edit only refl spelt)
image_alone table only edit (inr (inr spelt)) = spelt.1

-- ---- parts of an edit

no_words : (fields : Members) (text : List ℕ) → Some text ≡ text_at (codes "content") fields → ((words : List ℕ) → ¬ (decode_of text ≡ Ok (bytes_of words))) → (edit : ScriptEdit) → SpellsCategory fields edit → ⊥
no_words fields text at none (Alias slave value) spelt = spelt
no_words fields text at none (Category slave kind words) spelt =
    let P : Option (List ℕ) → Type 0 = λ found. IsSomeAnd found (λ content. decode_of content ≡ Ok (bytes_of words)) in
    none words (subst P (sym at) spelt.3)
no_words fields text at none (Image slave file replace) spelt = spelt

-- a content that spells no words
pub no_content : (table fields : Members) (text : List ℕ) → Some fields ≡ table_at (codes "category") table → Some text ≡ text_at (codes "content") fields → ((words : List ℕ) → ¬ (decode_of text ≡ Ok (bytes_of words)))
    → (edit : ScriptEdit) → ¬ IsSomeAnd (table_at (codes "category") table) (λ fields. SpellsCategory fields edit)
no_content table fields text here at none edit spelt =
    let P : Option Members → Type 0 = λ found. IsSomeAnd found (λ fields. SpellsCategory fields edit) in
    no_words fields text at none edit (subst P (sym here) spelt)

no_expectation : (value : Data) → ((expect : Expect) → ¬ IsSomeAnd (as_table value) (λ fields. SpellsExpect fields expect)) → (expect : Option Expect) → SpellsGuard (Some value) expect → ⊥
no_expectation value none None spelt = spelt
no_expectation value none (Some expect) spelt = none expect spelt

-- the first of three values that is there
pub guard_first : (a b c : Option Data) (value : Data) → Some value ≡ a → Some value ≡ first_of a (first_of b c)
guard_first a b c value here =
    let P : Option Data → Type 0 = λ o. Some value ≡ first_of o (first_of b c) in
    subst P here refl

pub guard_second : (a b c : Option Data) (value : Data) → None ≡ a → Some value ≡ b → Some value ≡ first_of a (first_of b c)
guard_second a b c value none here =
    let P : Option Data → Type 0 = λ o. Some value ≡ first_of o (first_of b c) in
    let Q : Option Data → Type 0 = λ o. Some value ≡ first_of o c in
    subst P none (subst Q here refl)

pub guard_third : (a b c found : Option Data) → None ≡ a → None ≡ b → found ≡ c → found ≡ first_of a (first_of b c)
guard_third a b c found none also here =
    let P : Option Data → Type 0 = λ o. found ≡ first_of o (first_of b c) in
    let Q : Option Data → Type 0 = λ o. found ≡ first_of o c in
    subst P none (subst Q also here)

-- a value at `expect` that is not an identity
pub no_identity : {F : Type 0} (memory fault : F) (value : Data) → ((expect : Expect) → ¬ IsSomeAnd (as_table value) (λ fields. SpellsExpect fields expect)) → Reads memory (λ (expect : Option Expect). expect) (SpellsGuard (Some value)) (Err fault)
no_identity memory fault value none = inr (λ expect. no_expectation value none expect)

-- no value at `expect`, beside the edit or among its fields
pub no_guards : {F : Type 0} (memory : F) (beside own : Option Data) → None ≡ beside → None ≡ own → Reads memory (λ (expect : Option Expect). expect) (SpellsGuards beside own) (Ok None)
no_guards memory beside own no_beside no_own =
    let P : Option Data → Type 0 = λ b. SpellsGuards b own None in
    let Q : Option Data → Type 0 = λ o. SpellsGuards None o None in
    subst P no_beside (subst Q no_own tt)

-- one value, beside the edit
pub guard_beside : {F : Type 0} (memory : F) (beside own : Option Data) (value : Data) (result : Result (Option Expect) F) → Some value ≡ beside → None ≡ own → Reads memory (λ (expect : Option Expect). expect) (SpellsGuard (Some value)) result
    → Reads memory (λ (expect : Option Expect). expect) (SpellsGuards beside own) result
guard_beside memory beside own value result here none read =
    let P : Option Data → Type 0 = λ b. Reads memory (λ (expect : Option Expect). expect) (SpellsGuards b own) result in
    let Q : Option Data → Type 0 = λ o. Reads memory (λ (expect : Option Expect). expect) (SpellsGuards (Some value) o) result in
    subst P here (subst Q none (said_as memory (λ (expect : Option Expect). expect) (SpellsGuard (Some value)) (SpellsGuards (Some value) None) result read (λ expect spelt. spelt) (λ expect spelt. spelt)))

-- one value, among its fields
pub guard_inside : {F : Type 0} (memory : F) (beside own : Option Data) (value : Data) (result : Result (Option Expect) F) → None ≡ beside → Some value ≡ own → Reads memory (λ (expect : Option Expect). expect) (SpellsGuard (Some value)) result
    → Reads memory (λ (expect : Option Expect). expect) (SpellsGuards beside own) result
guard_inside memory beside own value result none here read =
    let P : Option Data → Type 0 = λ b. Reads memory (λ (expect : Option Expect). expect) (SpellsGuards b own) result in
    let Q : Option Data → Type 0 = λ o. Reads memory (λ (expect : Option Expect). expect) (SpellsGuards None o) result in
    subst P none (subst Q here (said_as memory (λ (expect : Option Expect). expect) (SpellsGuard (Some value)) (SpellsGuards None (Some value)) result read (λ expect spelt. spelt) (λ expect spelt. spelt)))

-- values in both places
pub two_guards : {F : Type 0} (memory fault : F) (beside own : Option Data) (one other : Data) → Some one ≡ beside → Some other ≡ own → Reads memory (λ (expect : Option Expect). expect) (SpellsGuards beside own) (Err fault)
two_guards memory fault beside own one other here there =
    let P : Option Data → Type 0 = λ b. (expect : Option Expect) → ¬ SpellsGuards b own expect in
    let Q : Option Data → Type 0 = λ o. (expect : Option Expect) → ¬ SpellsGuards (Some one) o expect in
    inr (subst P here (subst Q there (λ expect spelt. spelt)))

-- an array of other than two values
pub no_pair : (table : Members) (values : List Value) → Some (map view values) ≡ values_at (codes "swap") table → (2 ≡ length values → ⊥) → (pair : ℕ × ℕ) → ¬ SpellsSwap table pair.0 pair.1
no_pair table values is other pair spelt =
    let P : Option (List Data) → Type 0 = λ found. IsSomeAnd found (λ items. AllZip (IsNumberBelow 65536) items (pair.0 ∷ pair.1 ∷ [])) in
    other (same_count (IsNumberBelow 65536) view values (pair.0 ∷ pair.1 ∷ []) (subst P (sym is) spelt))

-- ---- a command, by its one key

absent_one : (known : List (List ℕ)) (table : Members) (edits : List ScriptGroupEdit) → HasOnly known table → is_known known (codes "alias") ≡ false → is_known known (codes "category") ≡ false → is_known known (codes "image") ≡ false → SpellsOneGuarded table edits → ⊥
absent_one known table [] only alias category image spelt = spelt
absent_one known table (one ∷ []) only alias category image spelt = absent_edit known table one.edit only alias category image spelt.0.0.0
absent_one known table (one ∷ other ∷ rest) only alias category image spelt = spelt

pub swap_alone : (table : Members) → HasOnly (codes "swap" ∷ []) table → ((pair : ℕ × ℕ) → ¬ SpellsSwap table pair.0 pair.1) → (command : ScriptCommand) → ¬ SpellsTableCommand table command
swap_alone table only none (One edit) spelt = absent_edit (codes "swap" ∷ []) table edit only refl refl refl spelt.0.0
swap_alone table only none (Swap a b) spelt = none (a, b) spelt.1
swap_alone table only none (Group edits) (inl spelt) = rw (unknown_at (codes "swap" ∷ []) (codes "group") table only refl) at spelt.1
swap_alone table only none (Group edits) (inr spelt) = absent_one (codes "swap" ∷ []) table edits.items only refl refl refl spelt

pub group_alone : (table : Members) → HasOnly (codes "group" ∷ []) table → ((edits : List ScriptGroupEdit) → ¬ SpellsGroup table edits) → (command : ScriptCommand) → ¬ SpellsTableCommand table command
group_alone table only none (One edit) spelt = absent_edit (codes "group" ∷ []) table edit only refl refl refl spelt.0.0
group_alone table only none (Swap a b) spelt = rw (unknown_at (codes "group" ∷ []) (codes "swap") table only refl) at spelt.1
group_alone table only none (Group edits) (inl spelt) = none edits.items spelt.1
group_alone table only none (Group edits) (inr spelt) = absent_one (codes "group" ∷ []) table edits.items only refl refl refl spelt

-- no edit outside a group is spelt
none_alone : (table : Members) (edits : List ScriptGroupEdit) → ((one : ScriptGroupEdit) → ¬ SpellsAlone table one) → ¬ SpellsOneGuarded table edits
none_alone table [] none spelt = spelt
none_alone table (one ∷ []) none spelt = none one spelt.0
none_alone table (one ∷ other ∷ rest) none spelt = spelt

pub edit_alone : (table : Members) → has_only (codes "swap" ∷ []) table ≡ false → has_only (codes "group" ∷ []) table ≡ false → ((one : ScriptGroupEdit) → ¬ SpellsAlone table one) → (command : ScriptCommand) → ¬ SpellsTableCommand table command
edit_alone table no_swap no_group none (One edit) spelt = none (record { expect = None; edit = edit }) spelt
edit_alone table no_swap no_group none (Swap a b) spelt = false≢true (sym no_swap ∙ spelt.0)
edit_alone table no_swap no_group none (Group edits) (inl spelt) = false≢true (sym no_group ∙ spelt.0)
edit_alone table no_swap no_group none (Group edits) (inr spelt) = none_alone table edits.items none spelt

-- an edit outside a group that expects nothing
pub one_plain : (table : Members) (one : ScriptGroupEdit) (edit : ScriptEdit) → SpellsGuarded table one → one.expect ≡ None → one.edit ≡ edit → None ≡ get_member (codes "expect") table → SpellsTableCommand table (One edit)
one_plain table one edit spelt plain is none =
    let P : Option Expect → Type 0 = λ e. SpellsGuarded table (record { expect = e; edit = one.edit }) in
    let Q : ScriptEdit → Type 0 = λ e. SpellsGuarded table (record { expect = None; edit = e }) in
    (subst Q is (subst P plain spelt), sym none)

-- one that expects an identity, as a group
pub one_guarded : (table : Members) (edits : List ScriptGroupEdit) (one : ScriptGroupEdit) → edits ≡ one ∷ [] → SpellsGuarded table one → IsSome one.expect → None ≡ get_member (codes "expect") table → SpellsOneGuarded table edits
one_guarded table edits one is spelt some none =
    let P : List ScriptGroupEdit → Type 0 = λ e. SpellsOneGuarded table e in
    subst P (sym is) ((spelt, sym none), some)

-- what an edit expects, beside it outside a group
pub expect_beside : {F : Type 0} (memory fault : F) (table : Members) (value : Data) → has_only (codes "swap" ∷ []) table ≡ false → has_only (codes "group" ∷ []) table ≡ false → Some value ≡ get_member (codes "expect") table
    → Reads memory (λ (command : ScriptCommand). command) (SpellsTableCommand table) (Err fault)
expect_beside memory fault table value no_swap no_group here =
    inr (edit_alone table no_swap no_group (λ one alone. none_is_some (here ∙ alone.1)))
  where
    none_is_some : Some value ≡ None → ⊥
    none_is_some is = cc is
