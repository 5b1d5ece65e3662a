-- The slaves of a plant are opened one by one.
use Rattle.std.proofs.Common.{◌≡◌, ◌⊎◌, inl, inr, ℕ, ◌+◌, ◌<◌, List, [], ◌∷◌, ◌++◌, length, take, get_or, map, sym, ◌∙◌, ap, arith}
use Rattle.std.proofs.lemmas.List.{take_more, map-append, get_or_append_left, get_or_push, length_push}
use Rattle.book_model.specs.Book.{Slave}
use Rattle.book_model.specs.Open.{opened_slave}
use Rattle.book_parts.specs.declared.work.SlaveWork.{SlaveWork}
use Rattle.book_parts.specs.Works.{work_at, no_work, slave_of, WorkStands, WorksStand}

pub opened-more : (works : List SlaveWork) (plant : List (List ℕ)) (i : ℕ) (w : SlaveWork) → i < length plant → map slave_of works ≡ map opened_slave (take i plant)
    → slave_of w ≡ opened_slave (get_or plant i []) → map slave_of (works ++ w ∷ []) ≡ map opened_slave (take (i + 1) plant)
opened-more works plant i w within are is =
    map-append slave_of works (w ∷ []) ∙ ap (λ (l : List Slave). l ++ slave_of w ∷ []) are ∙ ap (λ (s : Slave). map opened_slave (take i plant) ++ s ∷ []) is
    ∙ sym (map-append opened_slave (take i plant) (get_or plant i [] ∷ [])) ∙ ap (map opened_slave) (sym (take_more plant i [] within))

pub stands-more : (works : List SlaveWork) (w : SlaveWork) → WorksStand works [] [] → ((i : ℕ) → WorkStands w i [] []) → WorksStand (works ++ w ∷ []) [] []
stands-more works w stand here = λ k inside. one k (sides k (length works) (omega (arith, length_push works w)))
  where
    sides : (m n : ℕ) → m < n + 1 → (m < n) ⊎ (n ≡ m)
    sides m n lt = grind arith

    one : (k : ℕ) → (k < length works) ⊎ (length works ≡ k) → WorkStands (work_at (works ++ w ∷ []) k) k [] []
    one k (inl inside) = rw (get_or_append_left works (w ∷ []) no_work k inside) (stand k inside)
    one k (inr is) = rw (get_or_push works w no_work k is) (here k)
