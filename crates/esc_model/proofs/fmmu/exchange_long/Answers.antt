use Rattle.std.proofs.Common.{ℕ, List, length, ap, sym, refl, ◌∙◌}
use Rattle.esc_model.specs.Fmmu.{all_read}
use Rattle.esc_model.proofs.fmmu.exchange_long.Goals as goal

pub slice_bounds-copy_from_slice-end : goal.slice_bounds-copy_from_slice-end
slice_bounds-copy_from_slice-end c = refl

pub copy_from_slice-requires : goal.copy_from_slice-requires
copy_from_slice-requires c = sym c.requires.memory

pub write_mapped-requires : goal.write_mapped-requires
write_mapped-requires c = c.requires.memory

pub read_mapped-requires : goal.read_mapped-requires
read_mapped-requires c = ap length c.copy_from_slice.ensures.after ∙ c.requires.memory

pub returns-clause-memory : goal.returns-clause-memory
returns-clause-memory c = c.write_mapped.ensures

pub returns-clause-content : goal.returns-clause-content
returns-clause-content c =
    c.read_mapped.ensures ∙ ap (λ (memory : List ℕ). all_read memory c.args.units.now c.args.start c.args.content.now) c.copy_from_slice.ensures.after
