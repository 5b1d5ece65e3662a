use Rattle.std.proofs.Common.{◌≡◌, map, drop}
use Rattle.sii_edit.specs.Draft.{drafted, IsDraftOf}
use Rattle.sii_edit.specs.Command.{edits_from, unguarded}
use Rattle.sii_edit.proofs.group.edit_all.Given as goal

-- the edits that are left lead to what all of them lead to
abbrev pub invariant-loop-place : goal.invariant-loop-place
invariant-loop-place l = record {
  fits : IsDraftOf l.plant l.draft;
  left : edits_from l.place (drafted l.plant l.draft) (drop l.place (map unguarded l.edits)) ≡ edits_from 0 (drafted l.plant l.initial.draft) (map unguarded l.edits);
}
