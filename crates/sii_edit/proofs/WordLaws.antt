-- The words of a slave stay words of 16 bits as they are edited.
use Rattle.std.proofs.Common.{◌≡◌, inl, inr, ℕ, suc, ◌^◌, ◌<◌, false, List, [], ◌∷◌, ◌++◌, length, take, drop, set, Result, Ok, Err, Option, Some, None, refl, sym, subst, arith, length-append}
use Rattle.std.specs.Prelude.{All, slice_index, position}
use Rattle.std.proofs.lemmas.Bool.{cases_lt}
use Rattle.std.proofs.lemmas.List.{get_or_past, append-nil}
use Rattle.std.proofs.lemmas.List.Elements.{All-nil, All-cons, All-head, All-tail, All-append, All-take, All-drop, All-set, All-push, All-get_or}
use Rattle.sii_words.specs.CheckByte.{check_byte_of}
use Rattle.sii_words.proofs.CheckByteLaws.{check_byte_below}
use Rattle.sii_cats.specs.Chain.{Member, chain_words}
use Rattle.sii_cats.specs.steps.Chain.{members_of}
use Rattle.sii_cats.specs.Splice.{spliced, chain_end, closing}
use Rattle.sii_cats.proofs.Walk.{chain_is}
use Rattle.sii_cats.proofs.Edits.{chain_parts}
use Rattle.sii_edit.specs.declared.command.Expect.{Expect}
use Rattle.sii_edit.specs.declared.command.Edit.{Edit}
use Rattle.sii_edit.specs.declared.command.Edit.TheVariants.{Alias, Category, Image}
use Rattle.sii_edit.specs.Alias.{with_low_byte, with_alias}
use Rattle.sii_edit.specs.Category.{has_kind, exchanged, is_too_long, if_read, rechained}
use Rattle.sii_edit.specs.Command.{causes_against, words_after}
use Rattle.sii_edit.proofs.AliasLaws.{length-with_alias}
use Rattle.sii_edit.proofs.UnlessLaws.{NoneHolds}
use Rattle.sii_edit.proofs.ShapeLaws.{within, length-words_after}
use Rattle.sii_edit.specs.Fitting.{IsWord, WordsFit, EditFits}

-- ---- an alias

pub word-at : (words : List ℕ) (at : ℕ) → All IsWord words → IsWord (slice_index words at)
word-at words at all = elim (cases_lt at (length words)) [
  | inl inside ↦ All-get_or IsWord words at 0 inside all
  | inr past ↦ rw (get_or_past words at 0 past) (omega arith)
]

low-byte : (word byte : ℕ) → IsWord word → byte < 256 → IsWord (with_low_byte word byte)
low-byte word byte small below = omega arith

pub fit-with_alias : (words : List ℕ) (value : ℕ) → IsWord value → WordsFit words → WordsFit (with_alias words value)
fit-with_alias words value small fits =
    let named = set words 4 value in
    let seven = with_low_byte (slice_index words 7) (check_byte_of named) in
    record {
      count = let count = fits.count in omega (arith, count, length-with_alias words value);
      each = All-set IsWord named 7 seven (low-byte (slice_index words 7) (check_byte_of named) (word-at words 7 fits.each) (check_byte_below named)) (All-set IsWord words 4 value small fits.each);
    }

-- ---- a category

-- the words of a category, but for how many they are
pub record MemberFits (m : Member) : Type 0 where
  pub kind : IsWord m.kind
  pub content : All IsWord m.content

chain-fits : (ms : List Member) → length (chain_words ms) < 2 ^ 16 → All MemberFits ms → All IsWord (chain_words ms)
chain-fits [] few all = All-nil IsWord
chain-fits (m ∷ ms) few all =
    let here = All-head MemberFits m ms all in
    let long = length-append m.content (chain_words ms) in
    let others = chain-fits ms (omega (arith, few, long)) (All-tail MemberFits m ms all) in
    All-cons IsWord m.kind (length m.content ∷ m.content ++ chain_words ms) here.kind
    (All-cons IsWord (length m.content) (m.content ++ chain_words ms) (omega (arith, few, long)) (All-append IsWord m.content (chain_words ms) here.content others))

all-front : (xs ys : List ℕ) → All IsWord (xs ++ ys) → All IsWord xs
all-front [] ys all = All-nil IsWord
all-front (x ∷ xs) ys all = All-cons IsWord x xs (All-head IsWord x (xs ++ ys) all) (all-front xs ys (All-tail IsWord x (xs ++ ys) all))

all-after : (xs ys : List ℕ) → All IsWord (xs ++ ys) → All IsWord ys
all-after [] ys all = all
all-after (x ∷ xs) ys all = all-after xs ys (All-tail IsWord x (xs ++ ys) all)

members-fit : (ms : List Member) (rest : List ℕ) → All IsWord (chain_words ms ++ rest) → All MemberFits ms
members-fit [] rest all = All-nil MemberFits
members-fit (m ∷ ms) rest all =
    let chain = all-front (chain_words (m ∷ ms)) rest all in
    let after = All-tail IsWord (length m.content) (m.content ++ chain_words ms) (All-tail IsWord m.kind (length m.content ∷ m.content ++ chain_words ms) chain) in
    let kind = All-head IsWord m.kind (length m.content ∷ m.content ++ chain_words ms) chain in
    All-cons MemberFits m ms (record { kind = kind; content = all-front m.content (chain_words ms) after })
    (members-fit ms [] (subst (All IsWord) (sym (append-nil (chain_words ms))) (all-after m.content (chain_words ms) after)))

-- the categories that words have
read-fit : (words : List ℕ) (ms : List Member) → members_of words ≡ Ok ms → All IsWord words → All MemberFits ms
read-fit words ms is all =
    let parts = chain_parts (drop 64 words) ms (chain_is words ms is) in
    members-fit ms parts.0 (subst (All IsWord) parts.1 (All-drop IsWord 64 words all))

spliced-fit : (place : Option ℕ) (kind : ℕ) (content : List ℕ) (ms : List Member) → IsWord kind → All IsWord content → All MemberFits ms → All MemberFits (spliced place kind content ms)
spliced-fit None kind content ms small each all = All-push MemberFits ms (record { kind = kind; content = content }) all (record { kind = small; content = each })
spliced-fit (Some i) kind [] ms small each all = All-append MemberFits (take i ms) (drop (suc i) ms) (All-take MemberFits i ms all) (All-drop MemberFits (suc i) ms all)
spliced-fit (Some i) kind (word ∷ words) ms small each all = All-set MemberFits ms i (record { kind = kind; content = word ∷ words }) (record { kind = small; content = each }) all

closing-fits : (words : List ℕ) → All IsWord words → All IsWord (closing words)
closing-fits [] all = all
closing-fits (word ∷ words) all = All-cons IsWord 0xFFFF words (omega arith) (All-tail IsWord word words all)

rechained-fit : (kind : ℕ) (content words : List ℕ) (read : Result (List Member) (List ℕ)) → members_of words ≡ read → if_read read (is_too_long words kind content) ≡ false
    → IsWord kind → All IsWord content → WordsFit words → All IsWord (rechained kind content words read)
rechained-fit kind content words (Err rest) is fits small each all = all.each
rechained-fit kind content words (Ok ms) is fits small each all =
    let new = exchanged kind content ms in
    let end = within (chain_end new) (length words) fits in
    let count = all.count in
    let front = take 64 words ++ chain_words new in
    let members = spliced-fit (position (has_kind kind) ms) kind content ms small each (read-fit words ms is all.each) in
    All-append IsWord front (closing (drop (length front) words))
    (All-append IsWord (take 64 words) (chain_words new) (All-take IsWord 64 words all.each) (chain-fits new (omega (arith, end, count)) members))
    (closing-fits (drop (length front) words) (All-drop IsWord (length front) words all.each))

-- ---- an edit

each-after : (expect : Option Expect) (edit : Edit) (words : List ℕ) → NoneHolds (causes_against expect edit words) → EditFits edit → WordsFit words → All IsWord (words_after edit words)
each-after expect (Alias slave value) words accepted small fits = let f = fit-with_alias words value small fits in f.each
each-after expect (Category slave kind content) words accepted small fits = rechained-fit kind content words (members_of words) refl accepted.1.1.1.1.0 small.0 small.1 fits
each-after expect (Image slave image) words accepted small fits = All-append IsWord image (drop (length image) words) small (All-drop IsWord (length image) words fits.each)

pub fit-words_after : (expect : Option Expect) (edit : Edit) (words : List ℕ) → NoneHolds (causes_against expect edit words) → EditFits edit → WordsFit words → WordsFit (words_after edit words)
fit-words_after expect edit words accepted small fits = record {
  count = let count = fits.count in omega (arith, count, length-words_after expect edit words accepted);
  each = each-after expect edit words accepted small fits;
}
