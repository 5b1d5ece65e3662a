use Rattle.std.proofs.Common.{◌≡◌, List, [], ◌∷◌, reverse, sym, ap, subst, ◌∙◌}
use Rattle.std.proofs.lemmas.List.{reverse-append}
use Rattle.site_core.specs.Disk.{Range}
use Rattle.site_shadow.specs.Unsynced.{Remembers}
use Rattle.site_shadow.proofs.Remembered.{Remembers-begun}
use Rattle.site_shadow.proofs.disk.MemDisk.begin.Goals as goal

pub invariant_of-self : goal.invariant_of-self
invariant_of-self c =
    let e : reverse c.note.new.self ≡ record { start = c.args.at; count = c.args.count } ∷ reverse c.self.inside.unsynced = ap reverse c.note.ensures ∙ reverse-append c.self.inside.unsynced (record { start = c.args.at; count = c.args.count } ∷ []) in
    subst (λ (u : List Range). Remembers c.hold-held.new.before.items (record { bytes = c.self.inside.bytes.items; unsynced = u; synced_length = c.self.inside.synced_length })) (sym e)
    (Remembers-begun c.self.inside.before.items c.hold-held.new.before.items (record { bytes = c.self.inside.bytes.items; unsynced = reverse c.self.inside.unsynced; synced_length = c.self.inside.synced_length }) c.args.at c.args.count c.self.invariant c.hold-held.ensures)
