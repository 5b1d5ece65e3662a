-- One more naming is live.
use Rattle.std.proofs.Common.{◌≡◌, ◌≢◌, ◌⊎◌, inl, inr, ℕ, suc, ◌+◌, ◌-◌, ◌<◌, ◌≤◌, Bool, true, false, List, [], ◌∷◌, ◌++◌, length, drop, set, get_or, refl, sym, ◌∙◌, ap, subst, arith}
use Rattle.std.specs.Prelude.{if◌then◌else◌}
use Rattle.std.proofs.lemmas.List.{append-nil, length-map, map-append, drop-append-le, take-append-le, take_at, drop_all, get_or_append_left, get_or_push, length_push, ext_get_or, length-set, get_or-set_same, get_or-set_other}
use Rattle.std.proofs.lemmas.Bool.{cases_eq}
use Rattle.book_model.specs.Cells.{Cell, Known, is_held, named, owing}
use Rattle.book_model.specs.Cells.{nothing}
use Rattle.book_model.specs.Cells.{cell_of}
use Rattle.book_model.specs.declared.due.Naming.{Naming}
use Rattle.book_model.specs.declared.due.Word.{Word}
use Rattle.book_model.specs.Pending.{Pending, values_of, word_named}
use Rattle.book_model.specs.Queue.{no_naming, no_word, pair_of, live_of, numbers_of, known_of, cell_for, cells_from, pending_of, end_of, WordStands, NamingStands, IsPast, word_at, naming_at, Stands, Cursor}
use Rattle.book_model.proofs.EndLaws.{same_test, other_test, values-append, end-pushed, end-stays, end-le}
use Rattle.book_model.proofs.QueueLaws.{cell-at, length-cells, word-set}
use Rattle.book_model.proofs.TodoLaws.{bool_cases}

live-push : (namings : List Naming) (n : Naming) → live_of (namings ++ n ∷ []) ≡ live_of namings ++ pair_of n ∷ []
live-push namings n = map-append pair_of namings (n ∷ [])

last-or : (p n : ℕ) → p < n + 1 → (p < n) ⊎ (p ≡ n)
last-or p n lt = grind arith

pub stands-named : (namings : List Naming) (words : List Word) (at : ℕ) (n : Naming) (word : Word) → Stands namings words → at < length words → n.word ≡ at → n.before ≡ (word_at words at).end
    → word.end ≡ length namings + 1 → word.mark ≤ word.end → Stands (namings ++ n ∷ []) (set words at word)
stands-named namings words at n word stands within is before end mark =
    record {
      each_word = λ k inside. word-set words at k word within (WordStands (live_of (namings ++ n ∷ [])))
          (rw (live-push namings n) (record { end = end ∙ more (length namings) (length live) all ∙ sym (end-pushed at live (pair_of n) is); mark = mark }))
          (λ other. let w = stands.each_word k (omega (arith, length-set words at word)) in
          rw (live-push namings n) (record { end = w.end ∙ sym (end-stays k live (pair_of n) (λ same. other (sym same ∙ is))); mark = w.mark }));
      each_naming = λ p inside. one p (last-or p (length namings) (omega (arith, length_push namings n)));
    }
  where
    live : List (ℕ × ℕ)
    live = live_of namings

    all : length live ≡ length namings
    all = length-map namings pair_of

    more : (a b : ℕ) → b ≡ a → a + 1 ≡ suc b
    more a b same = omega arith

    one : (p : ℕ) → (p < length namings) ⊎ (p ≡ length namings) → NamingStands (live_of (namings ++ n ∷ [])) p (naming_at (namings ++ n ∷ []) p) (length (set words at word))
    one p (inl lt) =
        let s = stands.each_naming p lt in
        rw (live-push namings n, get_or_append_left namings (n ∷ []) no_naming p lt) (record {
          inside = omega (arith, s.inside, length-set words at word);
          before = s.before ∙ ap (end_of (naming_at namings p).word) (sym (take-append-le p live (pair_of n ∷ []) (omega (arith, all))));
        })
    one p (inr last) =
        let e = (stands.each_word at within).end in
        rw (live-push namings n, get_or_push namings n no_naming p (sym last)) (record {
          inside = omega (arith, length-set words at word);
          before = before ∙ e ∙ ap (λ (k : ℕ). end_of k live) (sym is) ∙ ap (end_of n.word) (sym (take_at live (pair_of n ∷ []) p (all ∙ sym last)));
        })

pub cursor-named : (namings : List Naming) (words : List Word) (cursor at : ℕ) (n : Naming) (word : Word) → Cursor cursor namings words → at < length words → word.end ≡ length namings + 1 → Cursor cursor (namings ++ n ∷ []) (set words at word)
cursor-named namings words cursor at n word past within end = record {
  inside = omega (arith, past.inside, length_push namings n);
  past = λ k inside. word-set words at k word within (λ i w. IsPast cursor w) (λ le. absurd (omega (arith, past.inside))) (λ other. past.past k (omega (arith, length-set words at word)));
}

owed-named : (known : Known) (live : List (ℕ × ℕ)) (at value mark : ℕ) (n : ℕ × ℕ) → n ≡ (at, value) → mark ≤ length live
    → values_of at (drop (if is_held known value then length live + 1 else mark) (live ++ n ∷ [])) ≡ named known (values_of at (drop mark live)) value
owed-named known live at value mark n is le = elim (bool_cases (is_held known value)) [
  | inl held ↦ rw held (ap (values_of at) (drop_all (length live + 1) (live ++ n ∷ []) (omega (arith, length_push live n))))
  | inr not ↦ rw not
      (ap (values_of at) (drop-append-le mark live (n ∷ []) le) ∙ values-append at (drop mark live) (n ∷ [])
      ∙ ap (λ (m : ℕ × ℕ). values_of at (drop mark live) ++ values_of at (m ∷ [])) is
      ∙ ap (λ (l : List ℕ). values_of at (drop mark live) ++ l) here)
]
  where
    here : values_of at ((at, value) ∷ []) ≡ value ∷ []
    here = rw (same_test at at refl) refl

owed-other : (live : List (ℕ × ℕ)) (k mark : ℕ) (n : ℕ × ℕ) → n.0 ≢ k → mark ≤ length live → values_of k (drop mark (live ++ n ∷ [])) ≡ values_of k (drop mark live)
owed-other live k mark n other le =
    ap (values_of k) (drop-append-le mark live (n ∷ []) le) ∙ values-append k (drop mark live) (n ∷ []) ∙ rw (other_test n.0 k other) (append-nil (values_of k (drop mark live)))

-- a word's mark is within the namings
pub mark-live : (namings : List Naming) (words : List Word) (k : ℕ) → Stands namings words → k < length words → (word_at words k).mark ≤ length (live_of namings)
mark-live namings words k stands inside = let w = stands.each_word k inside in omega (arith, w.end, w.mark, end-le k (live_of namings))

pub names : (namings : List Naming) (words : List Word) (room at value : ℕ) (n : Naming) (word : Word) → Stands namings words → at < length words → pair_of n ≡ (at, value) → word.held ≡ (word_at words at).held
    → word.mark ≡ (if is_held (known_of (word_at words at).held) value then length namings + 1 else (word_at words at).mark)
    → pending_of (namings ++ n ∷ []) (set words at word) (room - 1) ≡ word_named (pending_of namings words room) at value n.entry
names namings words room at value n word stands within is held mark =
    let cells : cells_from (live_of (namings ++ n ∷ [])) 0 (set words at word) ≡ set (cells_from live 0 words) at (owing (cell_of (cells_from live 0 words) at) (value ∷ [])) =
    ext_get_or nothing (cells_from (live_of (namings ++ n ∷ [])) 0 (set words at word)) (set (cells_from live 0 words) at (owing (cell_of (cells_from live 0 words) at) (value ∷ [])))
    (length-cells (live_of (namings ++ n ∷ [])) 0 (set words at word) ∙ length-set words at word ∙ sym (length-cells live 0 words) ∙ sym (length-set (cells_from live 0 words) at (owing (cell_of (cells_from live 0 words) at) (value ∷ []))))
    (λ k inside. one k (omega (arith, length-cells (live_of (namings ++ n ∷ [])) 0 (set words at word), length-set words at word)) (cases_eq k at)) in
    let lives : live_of (namings ++ n ∷ []) ≡ live ++ (at, value) ∷ [] = live-push namings n ∙ ap (λ (m : ℕ × ℕ). live ++ m ∷ []) is in
    ap (λ (l : List Cell). let p : Pending = record { cells = l; live = live_of (namings ++ n ∷ []); numbers = numbers_of (namings ++ n ∷ []); room = room - 1 } in p) cells
    ∙ ap (λ (l : List (ℕ × ℕ)). let p : Pending = record { cells = set (cells_from live 0 words) at (owing (cell_of (cells_from live 0 words) at) (value ∷ [])); live = l; numbers = numbers_of (namings ++ n ∷ []); room = room - 1 } in p) lives
    ∙ ap (λ (l : List ℕ). let p : Pending = record { cells = set (cells_from live 0 words) at (owing (cell_of (cells_from live 0 words) at) (value ∷ [])); live = live ++ (at, value) ∷ []; numbers = l; room = room - 1 } in p) (map-append (λ (m : Naming). m.entry) namings (n ∷ []))
  where
    live : List (ℕ × ℕ)
    live = live_of namings

    all : length namings ≡ length live
    all = sym (length-map namings pair_of)

    there : (k : ℕ) → k < length words → get_or (cells_from (live_of (namings ++ n ∷ [])) 0 (set words at word)) k nothing ≡ cell_for (live ++ pair_of n ∷ []) k (word_at (set words at word) k)
    there k inside = cell-at (live_of (namings ++ n ∷ [])) (set words at word) k (omega (arith, length-set words at word)) ∙ ap (λ (l : List (ℕ × ℕ)). cell_for l k (word_at (set words at word) k)) (live-push namings n)

    one : (k : ℕ) → k < length words → (k ≡ at) ⊎ (k ≢ at)
        → get_or (cells_from (live_of (namings ++ n ∷ [])) 0 (set words at word)) k nothing ≡ get_or (set (cells_from live 0 words) at (owing (cell_of (cells_from live 0 words) at) (value ∷ []))) k nothing
    one k inside (inr other) =
        there k inside
        ∙ ap (cell_for (live ++ pair_of n ∷ []) k) (get_or-set_other words at k word no_word other)
        ∙ ap (λ (l : List ℕ). let c : Cell = record { known = known_of (word_at words k).held; owed = l } in c)
        (owed-other live k (word_at words k).mark (pair_of n) (λ same. other (sym same ∙ ap (λ (m : ℕ × ℕ). m.0) is)) (mark-live namings words k stands inside))
        ∙ sym (cell-at live words k inside)
        ∙ sym (get_or-set_other (cells_from live 0 words) at k (owing (cell_of (cells_from live 0 words) at) (value ∷ [])) nothing other)
    one k inside (inl here) = subst (λ (i : ℕ). get_or (cells_from (live_of (namings ++ n ∷ [])) 0 (set words at word)) i nothing ≡ get_or (set (cells_from live 0 words) at (owing (cell_of (cells_from live 0 words) at) (value ∷ []))) i nothing) (sym here)
        (there at within
        ∙ ap (cell_for (live ++ pair_of n ∷ []) at) (get_or-set_same words at word no_word within)
        ∙ ap (λ (h : Known). let c : Cell = record { known = h; owed = values_of at (drop word.mark (live ++ pair_of n ∷ [])) } in c) (ap known_of held)
        ∙ ap (λ (l : List ℕ). let c : Cell = record { known = known_of (word_at words at).held; owed = l } in c)
        (ap (λ (m : ℕ). values_of at (drop m (live ++ pair_of n ∷ []))) (mark ∙ ap (λ (m : ℕ). if is_held (known_of (word_at words at).held) value then m + 1 else (word_at words at).mark) all)
        ∙ owed-named (known_of (word_at words at).held) live at value (word_at words at).mark (pair_of n) is (mark-live namings words at stands within))
        ∙ sym (ap (λ (c : Cell). owing c (value ∷ [])) (cell-at live words at within))
        ∙ sym (get_or-set_same (cells_from live 0 words) at (owing (cell_of (cells_from live 0 words) at) (value ∷ [])) nothing (omega (arith, length-cells live 0 words))))

pub mark-within : (held : Bool) (result end mark : ℕ) → result ≡ (if held then end else mark) → mark ≤ end → result ≤ end
mark-within true result end mark is le = omega arith
mark-within false result end mark is le = omega arith

pub mark-more : (held : Bool) (result end mark : ℕ) → result ≡ (if held then end else mark) → mark ≤ end → mark ≤ result
mark-more true result end mark is le = omega arith
mark-more false result end mark is le = omega arith
