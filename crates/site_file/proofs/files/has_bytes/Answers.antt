use Rattle.std.proofs.Common.{rules, refl, ◌∙◌}
use Rattle.site_file.specs.Asking.{nothing, piece}
use Rattle.site_file.proofs.files.has_bytes.Goals as goal

pub loop-piece-init : goal.loop-piece-init
loop-piece-init g c = record { can_next = search rules; is_finite = tt; part = refl; reads = nothing }

pub returns-in_err-read-clause-reads : goal.returns-in_err-read-clause-reads
returns-in_err-read-clause-reads g c = piece _ _ _ _ _ c.loop-piece.invariant.reads c.read.ensures.asks

pub returns-then-ne-clause-reads : goal.returns-then-ne-clause-reads
returns-then-ne-clause-reads g c = piece _ _ _ _ _ c.loop-piece.invariant.reads c.read.ensures.asks

pub loop-piece-preserved : goal.loop-piece-preserved
loop-piece-preserved g c = record {
  can_next = search rules;
  is_finite = tt;
  part = c.read.ensures.part ∙ c.loop-piece.invariant.part;
  reads = piece _ _ _ _ _ c.loop-piece.invariant.reads c.read.ensures.asks;
}
