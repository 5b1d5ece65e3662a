-- What a slave is owed, and that it is issued, written and named.
use Rattle.std.proofs.Common.{◌≡◌, ◌≢◌, ◌⊎◌, inl, inr, ℕ, zero, suc, ◌<◌, ◌≤◌, Bool, true, false, List, [], ◌∷◌, ◌++◌, length, set, take, refl, sym, ◌∙◌, ap, subst, arith, Some}
use Rattle.std.specs.Prelude.{filter, is_some, if◌then◌else◌}
use Rattle.std.specs.List.{AllByRecursion}
use Rattle.std.proofs.lemmas.Bool.{cases_eq, cases_lt}
use Rattle.std.proofs.lemmas.List.{append-nil, get_or_past, get_or-set_same, get_or-set_other}
use Rattle.sii_words.specs.declared.run.Run.{Run}
use Rattle.book_model.specs.Cells.{Cell, Known, Holds, Unsure, nothing, cell_of, all_named, is_any, owing, written}
use Rattle.book_model.specs.Pending.{first, last_of, values_of, namings_settled}
use Rattle.book_model.specs.Pending as pending
use Rattle.book_model.specs.Entries.{entries_from, namings, values}
use Rattle.book_model.specs.Book.{Operation, NoOperation, Issuing, Unsettled, Settling}
use Rattle.book_model.specs.Open.{owing_words}
use Rattle.book_model.proofs.EndLaws.{values-append}
use Rattle.book_model.proofs.SettledLaws.{word-settled}
use Rattle.book_model.specs.Owed.{IsAmong, IsUnsure, due}
use Rattle.book_model.proofs.CellLaws.{due-append, due-all_named, held, length-all_named}
use Rattle.book_model.specs.Worn.{named_for, SlaveWorn}
use Rattle.book_model.proofs.WornBooks.{worn-few}
use Rattle.book_parts.specs.Line.{slave_at}
use Rattle.book_parts.proofs.OwingLaws.{cell-owing, length-owing_words}
use Rattle.book_core.specs.declared.book.Core.TheInside.{Inside}
use Rattle.book_core.specs.Parts.{book_of}
use Rattle.book_core.specs.Stands.{IsOwed, OwesLast, Stands}
use Rattle.book_core.specs.Wear.{IssuesFew}
use Rattle.book_core.proofs.RomLaws.{kept-by}
use Rattle.book_model.proofs.WorkLaws.{IsLast, last-all, some-of}
use Rattle.book_model.proofs.IssueLaws.{among, due-last}

-- ---- the last naming of a word

first-kept : (P : ℕ × ℕ → Type 0) (test : ℕ × ℕ → Bool) (ns : List (ℕ × ℕ)) (w : ℕ × ℕ) → AllByRecursion P ns → first (filter test ns) ≡ Some w → P w
first-kept P test [] w all is = absurd (cc is)
first-kept P test (n ∷ ns) w all is = one (test n) (λ rest. first-kept P test ns w all.1 rest) is
  where
    one : (b : Bool) → (first (filter test ns) ≡ Some w → P w) → first (if b then n ∷ filter test ns else filter test ns) ≡ Some w → P w
    one true later here = let e : n ≡ w = cc in subst P e all.0
    one false later rest = later rest

-- ---- an issue

-- what is issued is owed
pub issue-owed : (live : List (ℕ × ℕ)) (cells : List Cell) (w : ℕ × ℕ) → OwesLast live cells → first (pending.to_do cells live) ≡ Some w → (0 < length (cell_of cells w.0).owed) × IsAmong w.1 (cell_of cells w.0).owed
issue-owed live cells w last is =
    let owed = (cell_of cells w.0).owed in
    let some = some-of owed (kept-by cells (last_of live) w is) in
    let test : ℕ × ℕ → Bool = λ n. is_any (cell_of cells n.0).owed in
    let named : due 0 (values_of w.0 live) ≡ w.1 = first-kept (IsLast live) test (last_of live) w (last-all live) is 0 in
    (some, subst (λ (v : ℕ). IsAmong v owed) (last w.0 0 some ∙ named) (among 0 owed some))

-- ---- a cell changes

pub last-set : (live : List (ℕ × ℕ)) (cells : List Cell) (word : ℕ) (cell : Cell) → word < length cells → ((w : ℕ) → 0 < length cell.owed → due w cell.owed ≡ due w (values_of word live)) → OwesLast live cells → OwesLast live (set cells word cell)
last-set live cells word cell inside here last = λ at w. one at w (cases_eq at word)
  where
    one : (at w : ℕ) → (at ≡ word) ⊎ (at ≢ word) → 0 < length (cell_of (set cells word cell) at).owed → due w (cell_of (set cells word cell) at).owed ≡ due w (values_of at live)
    one at w (inl same) =
        subst (λ (n : ℕ). 0 < length (cell_of (set cells word cell) n).owed → due w (cell_of (set cells word cell) n).owed ≡ due w (values_of n live)) (sym same)
        (subst (λ (c : Cell). 0 < length c.owed → due w c.owed ≡ due w (values_of word live)) (sym (get_or-set_same cells word cell nothing inside)) (here w))
    one at w (inr other) =
        subst (λ (c : Cell). 0 < length c.owed → due w c.owed ≡ due w (values_of at live)) (sym (get_or-set_other cells word at cell nothing other)) (last at w)

pub last-written : (live : List (ℕ × ℕ)) (cells : List Cell) (word value : ℕ) → word < length cells → OwesLast live cells → OwesLast live (set cells word (written (cell_of cells word) value))
last-written live cells word value inside last = last-set live cells word (written (cell_of cells word) value) inside here last
  where
    here : (w : ℕ) → 0 < length (all_named (Holds value) [] (cell_of cells word).owed) → due w (all_named (Holds value) [] (cell_of cells word).owed) ≡ due w (values_of word live)
    here w some =
        let owed = (cell_of cells word).owed in
        let before : 0 < length owed = omega (arith, some, length-all_named (Holds value) [] owed) in
        due-last w value (all_named (Holds value) [] owed) some ∙ due-all_named (Holds value) value [] owed value refl refl ∙ due-last value w owed before ∙ last word w before

-- ---- a batch goes live

last-cell : (known : Known) (owed vs named : List ℕ) → ((w : ℕ) → 0 < length owed → due w owed ≡ due w named) → (w : ℕ) → 0 < length (all_named known owed vs) → due w (all_named known owed vs) ≡ due w (named ++ vs)
last-cell known owed [] named last w some = last w some ∙ ap (due w) (sym (append-nil named))
last-cell known owed (v ∷ vs) named last w some =
    let h = held known in
    due-last w h.0 (all_named known owed (v ∷ vs)) some ∙ due-all_named known h.0 owed (v ∷ vs) (due h.0 owed) h.1 refl ∙ sym (due-append w named (v ∷ vs))

-- if the word is owed anything, that is last what these namings give it last
abbrev IsLastOf : (at w : ℕ) → List (ℕ × ℕ) → Cell → Type 0
IsLastOf at w live cell = 0 < length cell.owed → due w cell.owed ≡ due w (values_of at live)

pub last-owing : (runs : List Run) (i : ℕ) (live : List (ℕ × ℕ)) (cells : List Cell) → OwesLast live cells → OwesLast (live ++ namings runs i) (owing_words runs i 0 cells)
last-owing runs i live cells last = λ at w. one at w (cases_lt at (length cells))
  where
    one : (at w : ℕ) → (at < length cells) ⊎ (length cells ≤ at) → IsLastOf at w (live ++ namings runs i) (cell_of (owing_words runs i 0 cells) at)
    one at w (inl inside) =
        let is : cell_of (owing_words runs i 0 cells) at ≡ owing (cell_of cells at) (values runs i at) = cell-owing runs i 0 cells at inside ∙ ap (λ (n : ℕ). owing (cell_of cells at) (values runs i n)) (omega arith) in
        let both = values-append at live (namings runs i) in
        subst (IsLastOf at w (live ++ namings runs i)) (sym is) (λ some. last-cell (cell_of cells at).known (cell_of cells at).owed (values runs i at) (values_of at live) (λ v any. last at v any) w some ∙ ap (due w) (sym both))
    one at w (inr past) =
        let is : cell_of (owing_words runs i 0 cells) at ≡ nothing = get_or_past (owing_words runs i 0 cells) at nothing (omega (arith, past, length-owing_words runs i 0 cells)) in
        subst (IsLastOf at w (live ++ namings runs i)) (sym is) (λ some. absurd (omega (arith, some)))

among-more : (value v : ℕ) (owed : List ℕ) → IsAmong value owed → IsAmong value (owed ++ v ∷ [])
among-more value v [] is = absurd is
among-more value v (o ∷ owed) (inl same) = inl same
among-more value v (o ∷ owed) (inr is) = inr (among-more value v owed is)

among-named : (known : Known) (owed vs : List ℕ) (value : ℕ) → IsUnsure known → IsAmong value owed → IsAmong value (all_named known owed vs)
among-named (Holds held) owed vs value unsure is = let e = unsure.1 in absurd cc
among-named (Unsure issues) owed [] value unsure is = is
among-named (Unsure issues) owed (v ∷ vs) value unsure is = among-named (Unsure issues) (owed ++ v ∷ []) vs value unsure (among-more value v owed is)

-- what is known of a word, and that it is owed a value
abbrev OwesCell : ℕ → Cell → Type 0
OwesCell value cell = IsUnsure cell.known × IsAmong value cell.owed

owes-cell : (runs : List Run) (i at : ℕ) (cells : List Cell) (word value : ℕ) → OwesCell value (cell_of cells word) → OwesCell value (cell_of (owing_words runs i at cells) word)
owes-cell runs i at [] word value is = is
owes-cell runs i at (c ∷ cs) zero value is = (is.0, among-named c.known c.owed (values runs i at) value is.0 is.1)
owes-cell runs i at (c ∷ cs) (suc word) value is = owes-cell runs i (suc at) cs word value is

pub owed-owing : (runs : List Run) (i : ℕ) (cells : List Cell) (operation : Operation) → IsOwed operation cells → IsOwed operation (owing_words runs i 0 cells)
owed-owing runs i cells NoOperation is = tt
owed-owing runs i cells (Issuing word value) is = owes-cell runs i 0 cells word value is
owed-owing runs i cells (Unsettled word value taken) is = owes-cell runs i 0 cells word value is
owed-owing runs i cells (Settling word value taken) is = owes-cell runs i 0 cells word value is

-- ---- the older half is retired

pub last-left : (older newer : List (ℕ × ℕ)) (cells : List Cell) → namings_settled cells newer older ≡ true → OwesLast (older ++ newer) cells → OwesLast newer cells
last-left older newer cells settled last = λ at w some. elim (word-settled cells newer older at settled) [
  | inl none ↦ last at w some ∙ ap (due w) (values-append at older newer ∙ ap (λ (l : List ℕ). l ++ values_of at newer) none)
  | inr few ↦
      last at w some ∙ ap (due w) (values-append at older newer) ∙ due-append w (values_of at older) (values_of at newer)
      ∙ due-last (due w (values_of at older)) w (values_of at newer) (omega (arith, few, some))
]

-- ---- what follows

pub few-issued : (core : Inside) → Stands core → IssuesFew (book_of core)
few-issued core stands = λ i inside.
    worn-few (book_of core) i
    (λ k within. subst (λ (b : List (List ℕ)). SlaveWorn (named_for (core.found ++ take core.ledger.durable (entries_from 0 b core.ledger.accepted)) k) (is_some core.fault) (slave_at core.work k))
    stands.base (stands.operations k within).worn)
    inside
