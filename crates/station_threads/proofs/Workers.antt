-- Threads that were started, and their ends.
use Rattle.std.proofs.Common.{◌≡◌, ◌∙◌, ◌+◌, ℕ, List, [], ◌∷◌, ◌++◌, length, Option, Some, None, Ok, Err, sym, ap, subst, arith}
use Rattle.station_jobs.specs.declared.log.SlaveLog.{SlaveLog}
use Rattle.station_jobs.specs.Ends.{Stay}
use Rattle.station_threads.specs.Parts.{IsEndOfSlave}
use Rattle.station_threads.specs.Sites.{AreEndsOfSites, IsEndOfTurns}
use Rattle.station_threads.specs.Starting.{Started, IsStarted, ComesTo, IsTurning, TurnsInto, Worker, IsWorkerOf, AreWorkersOf, EndsAs, EndAs}
use Rattle.station_threads.proofs.PlaceLaws.{placed-long, placed-more, placed-through}
use Rattle.sii_words.proofs.Quantifiers.{zip_snoc}

-- the work began with this site
pub began : {S L : Type 0} (site : S) (started : Started S L) (end : Stay S L) → IsStarted site started → ComesTo started end → end.start ≡ site
began site (Ok handle) end is comes = comes ∙ is
began {S} {L} site (Err ended) end is comes = ap (λ (e : Stay S L). e.start) comes ∙ is

pub turned : {S L : Type 0} (site : Option S) (turning : Option (Started S L)) (end : Option (Stay S L)) → IsTurning site turning → TurnsInto turning end → IsEndOfTurns site end
turned None None None is comes = tt
turned None None (Some end) is comes = absurd comes
turned None (Some started) end is comes = absurd is
turned (Some site) None end is comes = absurd is
turned (Some site) (Some started) None is comes = absurd comes
turned (Some site) (Some started) (Some end) is comes = began site started end is comes

module _ {S : Type 0} where
  -- the end of a slave's worker is that slave's
  ends : (slave : ℕ) (site : S) (worker : Worker S) (end : Stay S SlaveLog) → IsWorkerOf slave site worker → EndsAs worker end → IsEndOfSlave slave site end
  ends slave site (Ok handle) end is comes = record { slave_is = comes.slave_is ∙ is.0; start = comes.start ∙ is.1 }
  ends slave site (Err ended) end is comes = subst (IsEndOfSlave slave site) (sym comes) is

  pub all-end : (sites : List S) (workers : List (Worker S)) (all : List (Stay S SlaveLog)) → AreWorkersOf sites workers → EndAs workers all → AreEndsOfSites sites all
  all-end sites workers all are come = placed-through _ _ _ ends 0 sites workers all are come

  pub workers-long : (sites : List S) (workers : List (Worker S)) → AreWorkersOf sites workers → length workers ≡ length sites
  workers-long sites workers are = placed-long (λ slave (site : S) (worker : Worker S). IsWorkerOf slave site worker) 0 sites workers are

  -- one more
  pub workers-more : (sites : List S) (workers : List (Worker S)) (site : S) (worker : Worker S)
      → AreWorkersOf sites workers → IsWorkerOf (length sites) site worker → AreWorkersOf (sites ++ site ∷ []) (workers ++ worker ∷ [])
  workers-more sites workers site worker all one =
      let here : length sites ≡ 0 + length sites = omega arith in
      placed-more (λ slave (s : S) (w : Worker S). IsWorkerOf slave s w) 0 sites workers site worker all (subst (λ (n : ℕ). IsWorkerOf n site worker) here one)

  pub ends-more : (workers : List (Worker S)) (all : List (Stay S SlaveLog)) (worker : Worker S) (end : Stay S SlaveLog) → EndAs workers all → EndsAs worker end → EndAs (workers ++ worker ∷ []) (all ++ end ∷ [])
  ends-more workers all worker end come one = zip_snoc (λ (w : Worker S) (e : Stay S SlaveLog). EndsAs w e) workers all worker end come one
