-- The calls that are told of a device are on the files of its part.
use Rattle.std.proofs.Common.{◌≡◌, Some, refl, subst}
use Rattle.std.specs.Prelude.{IfSome, List, None, Option}
use Rattle.std.specs.Option.{ForSome}
use Rattle.site_shadow.specs.declared.lending.LinePart.{LinePart}
use Rattle.site_file.specs.declared.asking.Asked.{Asked}
use Rattle.site_file.specs.declared.asking.FileLog.{FileLog}
use Rattle.site_file.specs.Parts.{AreOf}

pub reported_own : (reported : FileLog) (part : LinePart) → reported.part ≡ Some part → IfSome reported.calls (AreOf (Some part))
reported_own reported part is = by reported.calls (subst (λ (p : Option LinePart). ForSome reported.calls (AreOf p)) is reported.own)
  where
    by : (calls : Option (List Asked)) → ForSome calls (AreOf (Some part)) → IfSome calls (AreOf (Some part))
    by None own = tt
    by (Some asked) own = own asked refl
