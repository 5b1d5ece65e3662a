use Rattle.std.proofs.Common.{◌≤◌, length, reverse, sym, subst}
use Rattle.site_core.specs.Disk.{Disk}
use Rattle.site_shadow.specs.Unsynced.{Covers}
use Rattle.site_shadow.proofs.Remembered.{Remembers-laid}
use Rattle.site_shadow.proofs.disk.MemDisk.lay.Goals as goal

pub invariant_of-self : goal.invariant_of-self
invariant_of-self c =
    let disk : Disk = record { bytes = c.self.inside.bytes.items; unsynced = reverse c.self.inside.unsynced; synced_length = c.self.inside.synced_length } in
    Remembers-laid c.self.inside.before.items disk c.args.at c.args.over.now c.lay_in.new.bytes.items
    (subst (λ (d : Disk). c.args.at ≤ length d.bytes) (sym c.self.view_is) c.requires.inside)
    (subst (λ (d : Disk). Covers d c.args.at (length c.args.over.now)) (sym c.self.view_is) c.requires.begun)
    c.self.invariant c.lay_in.ensures
