-- The test before a retire, and that the settled prefix never gets shorter.
use Rattle.std.proofs.Common.{◌≡◌, ◌⊎◌, inl, inr, ℕ, zero, suc, ◌+◌, ◌<◌, ◌≤◌, Bool, true, false, List, [], ◌∷◌, ◌++◌, length, get_or, refl, ◌∙◌, ap, subst, arith, length-append, add-zero, add-suc, suc-add}
use Rattle.std.specs.Prelude.{nat_le, ◌&&◌, ◌==◌, if◌then◌else◌}
use Rattle.std.proofs.lemmas.Bool.{cases_eq, le-leb, leb-true}
use Rattle.sii_words.specs.declared.run.Run.{Run}
use Rattle.jrn_format.specs.declared.journal.Entry.{Entry}
use Rattle.book_model.specs.Cells.{Cell, cell_of}
use Rattle.book_model.specs.Pending.{values_of, namings_settled}
use Rattle.book_model.proofs.SettledLaws.{word-settled, and-right, and-left}
use Rattle.book_model.proofs.EndLaws as queue
use Rattle.book_model.specs.Entries.{runs_of, namings, values}
use Rattle.book_model.specs.Book.{cell_at}
use Rattle.book_model.specs.Reading.{settled_from, runs_settled, settled_prefix}
use Rattle.book_model.specs.Plants.{AllFit, AllSettled}
use Rattle.book_model.specs.Fits.{SameCells, OwesNoMore}
use Rattle.book_model.proofs.CellLaws.{namings-append, values-append}
use Rattle.book_model.proofs.FitLaws.{runs_of-append}
use Rattle.book_model.proofs.BeginLaws.{le-of}

-- ---- what the test says

pub slave-settled : (first : ℕ) (cells : List (List Cell)) (after runs : List Run) (k : ℕ) → settled_from first cells after runs ≡ true → k < length cells
    → namings_settled (get_or cells k []) (namings after (first + k)) (namings runs (first + k)) ≡ true
slave-settled first [] after runs k is within = absurd (omega arith)
slave-settled first (c ∷ cells) after runs zero is within =
    rw add-zero (and-left (namings_settled c (namings after first) (namings runs first)) (settled_from (suc first) cells after runs) is)
slave-settled first (c ∷ cells) after runs (suc k) is within =
    rw (add-suc first k, ← suc-add first k)
    (slave-settled (suc first) cells after runs k (and-right (namings_settled c (namings after first) (namings runs first)) (settled_from (suc first) cells after runs) is) (omega arith))

settled-at : (cells : List (List Cell)) (after runs : List Run) (slave at : ℕ) → runs_settled cells after runs ≡ true → slave < length cells
    → (values runs slave at ≡ []) ⊎ (length (cell_at cells slave at).owed ≤ length (values after slave at))
settled-at cells after runs slave at is within =
    let here : namings_settled (get_or cells slave []) (namings after slave) (namings runs slave) ≡ true = subst (λ (s : ℕ). namings_settled (get_or cells slave []) (namings after s) (namings runs s) ≡ true) (omega arith) (slave-settled 0 cells after runs slave is within) in
    word-settled (get_or cells slave []) (namings after slave) (namings runs slave) at here

-- where the runs of the older half are settled, nothing unsettled is lost with them
pub retire-settled : (plant : List (List ℕ)) (gone older newer : List Run) (cells : List (List Cell)) → SameCells plant cells → AllFit plant gone (older ++ newer) cells → runs_settled cells newer older ≡ true → AllSettled plant newer cells
retire-settled plant gone older newer cells same fit is = λ slave at within inside.
    let owed : length (cell_at cells slave at).owed ≤ length (values (older ++ newer) slave at) = (fit slave at within inside).owed in
    let long = ap length (values-append older newer slave at) ∙ length-append (values older slave at) (values newer slave at) in
    elim (settled-at cells newer older slave at is (omega (arith, same.slaves))) [
      | inl none ↦ omega (arith, owed, long, ap length none)
      | inr le ↦ le
    ]

-- ---- the settled prefix never falls

both : (a b c d : Bool) → (a ≡ true → c ≡ true) → (b ≡ true → d ≡ true) → (a && b) ≡ true → (c && d) ≡ true
both true b c d f g is = rw (f refl) (g is)
both false b c d f g is = absurd cc

few : (n m k j : ℕ) → k ≤ n + j → nat_le n m ≡ true → nat_le k (m + j) ≡ true
few n m k j le is = le-leb k (m + j) (omega (arith, le, leb-true n m is))

namings-stay : (cells later : List Cell) (after more ns : List (ℕ × ℕ)) → ((at : ℕ) → length (cell_of later at).owed ≤ length (cell_of cells at).owed + length (values_of at more))
    → namings_settled cells after ns ≡ true → namings_settled later (after ++ more) ns ≡ true
namings-stay cells later after more [] owes is = refl
namings-stay cells later after more (n ∷ ns) owes is =
    both (nat_le (length (cell_of cells n.0).owed) (length (values_of n.0 after))) (namings_settled cells after ns)
    (nat_le (length (cell_of later n.0).owed) (length (values_of n.0 (after ++ more)))) (namings_settled later (after ++ more) ns)
    (λ yes_it_is. ap (nat_le (length (cell_of later n.0).owed)) (ap length (queue.values-append n.0 after more) ∙ length-append (values_of n.0 after) (values_of n.0 more))
    ∙ few (length (cell_of cells n.0).owed) (length (values_of n.0 after)) (length (cell_of later n.0).owed) (length (values_of n.0 more)) (owes n.0) yes_it_is)
    (namings-stay cells later after more ns owes) is

from-stays : (first : ℕ) (cells later : List (List Cell)) (after runs named : List Run) → length later ≡ length cells
    → ((k at : ℕ) → length (cell_at later k at).owed ≤ length (cell_at cells k at).owed + length (values runs (first + k) at))
    → settled_from first cells after named ≡ true → settled_from first later (after ++ runs) named ≡ true
from-stays first [] [] after runs named same more is = refl
from-stays first [] (l ∷ later) after runs named same more is = absurd (omega arith)
from-stays first (c ∷ cells) [] after runs named same more is = absurd (omega arith)
from-stays first (c ∷ cells) (l ∷ later) after runs named same more is =
    both (namings_settled c (namings after first) (namings named first)) (settled_from (suc first) cells after named)
    (namings_settled l (namings (after ++ runs) first) (namings named first)) (settled_from (suc first) later (after ++ runs) named)
    (λ yes_it_is. ap (λ (b : List (ℕ × ℕ)). namings_settled l b (namings named first)) (namings-append after runs first)
    ∙ namings-stay c l (namings after first) (namings runs first) (namings named first) (λ at. subst (λ (n : ℕ). length (cell_of l at).owed ≤ length (cell_of c at).owed + length (values runs n at)) (omega arith) (more 0 at)) yes_it_is)
    (from-stays (suc first) cells later after runs named (omega arith)
    (λ k at. subst (λ (n : ℕ). length (cell_at later k at).owed ≤ length (cell_at cells k at).owed + length (values runs n at)) (omega arith) (more (suc k) at))) is

runs-stay : (cells later : List (List Cell)) (after runs named : List Run) → length later ≡ length cells → OwesNoMore cells later runs → runs_settled cells after named ≡ true → runs_settled later (after ++ runs) named ≡ true
runs-stay cells later after runs named same more is =
    from-stays 0 cells later after runs named same (λ k at. subst (λ (n : ℕ). length (cell_at later k at).owed ≤ length (cell_at cells k at).owed + length (values runs n at)) (omega arith) (more k at)) is

counted : (c d : Bool) (n m : ℕ) → (c ≡ true → d ≡ true) → n ≤ m → (if c then suc n else 0) ≤ (if d then suc m else 0)
counted true d n m f le = rw (f refl) (omega arith)
counted false d n m f le = omega arith

pub prefix-stays : (cells later : List (List Cell)) (entries next : List Entry) → length later ≡ length cells → OwesNoMore cells later (runs_of next) → settled_prefix cells entries ≤ settled_prefix later (entries ++ next)
prefix-stays cells later [] next same more = omega arith
prefix-stays cells later (e ∷ es) next same more =
    counted (runs_settled cells (runs_of es) e.runs) (runs_settled later (runs_of (es ++ next)) e.runs) (settled_prefix cells es) (settled_prefix later (es ++ next))
    (λ is. ap (λ (l : List Run). runs_settled later l e.runs) (runs_of-append es next) ∙ runs-stay cells later (runs_of es) (runs_of next) e.runs same more is)
    (prefix-stays cells later es next same more)
