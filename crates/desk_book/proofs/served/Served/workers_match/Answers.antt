use Rattle.std.proofs.Common.{◌≡◌, ◌∙◌, inl, inr, ℕ, zero, suc, ◌+◌, ◌<◌, List, [], ◌∷◌, length, get_or, refl, ap, subst, arith, Some}
use Rattle.std.specs.Prelude.{slice_get}
use Rattle.std.proofs.lemmas.Bool.{cases_lt}
use Rattle.sii_edit.specs.Fold.{contents}
use Rattle.book_model.specs.Book.{base_of}
use Rattle.station_jobs.specs.declared.log.SlaveLog.{SlaveLog}
use Rattle.station_jobs.specs.Ends.{Stay}
use Rattle.station_jobs.specs.Working.{IsWorked}
use Rattle.desk_book.specs.Calls.{replayed}
use Rattle.desk_book.specs.Closing.{IsWorkOf}
use Rattle.desk_book.proofs.served.Served.workers_match.Goals as goal

item-at : {A : Type 0} (xs : List A) (k : ℕ) (x d : A) → slice_get xs k ≡ Some x → get_or xs k d ≡ x
item-at [] k x d is = absurd cc
item-at (y ∷ xs) zero x d is = cc
item-at (y ∷ xs) (suc k) x d is = item-at xs k x d is

within-count : {A : Type 0} (xs : List A) (k : ℕ) (x : A) → slice_get xs k ≡ Some x → k < length xs
within-count [] k x is = absurd cc
within-count (y ∷ xs) zero x is = omega arith
within-count (y ∷ xs) (suc k) x is = omega (arith, within-count xs k x is)

-- and so for one more item
each-more : {A : Type 0} (P : ℕ → A → Type 0) (xs : List A) (i : ℕ) (x : A) → x ≡ get_or xs i x → P i x → ((k : ℕ) (y : A) → k < i → slice_get xs k ≡ Some y → P k y) → (k : ℕ) (y : A) → k < i + 1 → slice_get xs k ≡ Some y → P k y
each-more P xs i x is here before k y below there = elim (cases_lt k i) [
  | inl earlier ↦ before k y earlier there
  | inr past ↦
      let same : i ≡ k = omega arith in
      let item : x ≡ y = is ∙ ap (λ (n : ℕ). get_or xs n x) same ∙ item-at xs k y x there in
      subst (P k) item (subst (λ (n : ℕ). P n x) same here)
]

pub loop-i-preserved : goal.loop-i-preserved
loop-i-preserved g c =
    let calls = c.args.self.now.calls in
    let i = c.loop-i.i in
    let end = c.index-workers-i.result in
    let work : IsWorkOf calls i end.log = subst (λ (log : SlaveLog). IsWorkOf calls i log) c.log.ensures.log (c.worker_matches.ensures.0 c.if-not-worker_matches.false) in
    record {
      matches = each-more (λ (k : ℕ) (one : Stay g.row.S.Denot SlaveLog). IsWorkOf calls k one.log) c.args.workers.now i end c.index-workers-i.is work c.loop-i.invariant.matches;
      worked = each-more (λ (k : ℕ) (one : Stay g.row.S.Denot SlaveLog). IsWorked one.log.slave one.log.jobs (g.S.Site.seen one.start) (g.S.Site.seen one.site)) c.args.workers.now i end c.index-workers-i.is c.log.ensures.led c.loop-i.invariant.worked;
    }

pub returns-clause-matches : goal.returns-clause-matches
returns-clause-matches g c =
    let opened = g.T.Tickets.opened in
    let count : length c.args.workers.now ≡ length (contents (base_of opened) (replayed opened c.args.self.now.calls).accepted) = omega (arith, c.if-workers-len.false, c.len.ensures.len, ap length c.contents.ensures) in (
      λ yes. record { count = count; each = λ k end is. c.loop-i.invariant.matches k end (omega (arith, within-count c.args.workers.now k end is, c.loop-i-test.false)) is },
      λ all. refl,
    )

pub returns-clause-worked : goal.returns-clause-worked
returns-clause-worked g c = λ yes k end is. c.loop-i.invariant.worked k end (omega (arith, within-count c.args.workers.now k end is, c.loop-i-test.false)) is
