-- What is settled, slave by slave.
use Rattle.std.proofs.Common.{◌≡◌, ℕ, zero, suc, ◌+◌, ◌<◌, Bool, true, false, List, [], ◌∷◌, ◌++◌, length, take, drop, get_or, map, refl, sym, ◌∙◌, ap, subst, arith, add-zero}
use Rattle.std.specs.Prelude.{◌&&◌, nat_le}
use Rattle.std.proofs.lemmas.List.{take_more, take-append-drop, drop_more, drop_at, take_at}
use Rattle.book_model.specs.Cells.{Cell, cell_of}
use Rattle.book_model.specs.Pending.{Pending, values_of, namings_settled, can_retire}
use Rattle.jrn_format.specs.declared.journal.Entry.{Entry}
use Rattle.sii_words.specs.declared.run.Run.{Run}
use Rattle.book_model.specs.Entries.{runs_of, namings}
use Rattle.book_model.specs.Book.{all_cells}
use Rattle.book_model.specs.Reading.{settled_from}
use Rattle.book_parts.specs.declared.work.SlaveWork.{SlaveWork}
use Rattle.book_parts.specs.Works.{work_at, slave_of, older_settled, all_older_settled, WorkStands}
use Rattle.book_parts.proofs.EntryLaws.{namings-append}
use Rattle.book_model.proofs.FitLaws.{runs_of-append}
use Rattle.book_model.proofs.SettledLaws.{and-left, and-right}

pub settled-append : (xs ys : List SlaveWork) → all_older_settled xs ≡ true → all_older_settled ys ≡ true → all_older_settled (xs ++ ys) ≡ true
settled-append [] ys one other = other
settled-append (x ∷ xs) ys one other = rw (and-left (older_settled x) (all_older_settled xs) one) (settled-append xs ys (and-right (older_settled x) (all_older_settled xs) one) other)

unsettled-append : (xs ys : List SlaveWork) → all_older_settled ys ≡ false → all_older_settled (xs ++ ys) ≡ false
unsettled-append [] ys not = not
unsettled-append (x ∷ xs) ys not = one (older_settled x) (unsettled-append xs ys not)
  where
    one : (b : Bool) → all_older_settled (xs ++ ys) ≡ false → (b && all_older_settled (xs ++ ys)) ≡ false
    one true rest = rest
    one false rest = refl

pub settled-more : (works : List SlaveWork) (i : ℕ) (w : SlaveWork) → i < length works → w ≡ get_or works i w → all_older_settled (take i works) ≡ true → older_settled w ≡ true → all_older_settled (take (i + 1) works) ≡ true
settled-more works i w within is before here =
    ap all_older_settled (take_more works i w within ∙ ap (λ (v : SlaveWork). take i works ++ v ∷ []) (sym is)) ∙ settled-append (take i works) (w ∷ []) before (rw here refl)

pub settled-not : (works : List SlaveWork) (i : ℕ) (w : SlaveWork) → i < length works → w ≡ get_or works i w → older_settled w ≡ false → false ≡ all_older_settled works
settled-not works i w within is here =
    sym (ap all_older_settled (sym (take-append-drop i works) ∙ ap (λ (l : List SlaveWork). take i works ++ l) (drop_more works i w within ∙ ap (λ (v : SlaveWork). v ∷ drop (i + 1) works) (sym is)))
    ∙ unsettled-append (take i works) (w ∷ drop (i + 1) works) (rw here refl))

pub settled-at : (works : List SlaveWork) (i : ℕ) → all_older_settled works ≡ true → i < length works → older_settled (work_at works i) ≡ true
settled-at [] i all lt = absurd (omega arith)
settled-at (w ∷ ws) zero all lt = and-left (older_settled w) (all_older_settled ws) all
settled-at (w ∷ ws) (suc i) all lt = settled-at ws i (and-right (older_settled w) (all_older_settled ws) all) (omega arith)

-- AS THE BOOK SAYS IT

pub live-is : (older newer : List Entry) (i : ℕ) → namings (runs_of (older ++ newer)) i ≡ namings (runs_of older) i ++ namings (runs_of newer) i
live-is older newer i = ap (λ (l : List Run). namings l i) (runs_of-append older newer) ∙ namings-append (runs_of older) (runs_of newer) i

pub newer-live : (work : SlaveWork) (i : ℕ) (older newer : List Entry) → WorkStands work i older newer → drop work.older work.queue.live ≡ namings (runs_of newer) i
newer-live work i older newer stands =
    ap (drop work.older) (stands.live ∙ live-is older newer i) ∙ drop_at (namings (runs_of older) i) (namings (runs_of newer) i) work.older (sym stands.first)

older-live : (work : SlaveWork) (i : ℕ) (older newer : List Entry) → WorkStands work i older newer → take work.older work.queue.live ≡ namings (runs_of older) i
older-live work i older newer stands =
    ap (take work.older) (stands.live ∙ live-is older newer i) ∙ take_at (namings (runs_of older) i) (namings (runs_of newer) i) work.older (sym stands.first)

work-settled : (work : SlaveWork) (i : ℕ) (older newer : List Entry) → WorkStands work i older newer → older_settled work ≡ namings_settled work.queue.cells (namings (runs_of newer) i) (namings (runs_of older) i)
work-settled work i older newer stands =
    ap (λ (l : List (ℕ × ℕ)). namings_settled work.queue.cells l (take work.older work.queue.live)) (newer-live work i older newer stands)
    ∙ ap (namings_settled work.queue.cells (namings (runs_of newer) i)) (older-live work i older newer stands)

settled-from : (works : List SlaveWork) (i : ℕ) (older newer : List Entry) → ((k : ℕ) → k < length works → WorkStands (work_at works k) (i + k) older newer)
    → all_older_settled works ≡ settled_from i (all_cells (map slave_of works)) (runs_of newer) (runs_of older)
settled-from [] i older newer stand = refl
settled-from (w ∷ ws) i older newer stand =
    let z : i + 0 ≡ i = add-zero i in
    let here : WorkStands w i older newer = subst (λ (n : ℕ). WorkStands w n older newer) z (stand 0 (omega arith)) in
    ap (λ (b : Bool). b && all_older_settled ws) (work-settled w i older newer here)
    ∙ ap (λ (b : Bool). namings_settled w.queue.cells (namings (runs_of newer) i) (namings (runs_of older) i) && b)
    (settled-from ws (suc i) older newer (λ k lt. let s : i + suc k ≡ suc i + k = omega arith in subst (λ (n : ℕ). WorkStands (work_at ws k) n older newer) s (stand (suc k) (omega arith))))

pub settled-is : (works : List SlaveWork) (older newer : List Entry) → ((k : ℕ) → k < length works → WorkStands (work_at works k) k older newer)
    → all_older_settled works ≡ settled_from 0 (all_cells (map slave_of works)) (runs_of newer) (runs_of older)
settled-is works older newer stand = settled-from works 0 older newer (λ k lt. let z : k ≡ 0 + k = omega arith in subst (λ (n : ℕ). WorkStands (work_at works k) n older newer) z (stand k lt))
