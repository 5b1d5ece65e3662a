-- To which slaves the device of a part of a line sends.
use Rattle.std.specs.Prelude.{◌≡◌, ◌⊎◌, ℕ, List, Option, Some, None, ⊤}
use Rattle.std.specs.List.{All}
use Rattle.esc_model.specs.Bytes.{station_of}
use Rattle.esc_model.specs.Orders.{station}
use Rattle.site_shadow.specs.declared.lending.LinePart.{LinePart}
use Rattle.site_shadow.specs.declared.lending.LinePart.TheVariants as part
use Rattle.site_wire.specs.declared.sending.Exchange.{Exchange}
use Rattle.site_wire.specs.Sent.{Exchanged}

-- the slaves on which the device of a part works: on each, for None, which is the line as a whole
abbrev pub WorksOn : Option LinePart → (slave : ℕ) → Type 0
WorksOn None slave = ⊤
WorksOn (Some part.Disk) slave = ⊥
WorksOn (Some (part.Slave own)) slave = own ≡ slave
WorksOn (Some part.Process) slave = ⊥

-- It was sent to a slave on which the device of this part works.
pub record IsForPart (part : Option LinePart) (call : Exchanged) : Type 0 where
  pub slave : ℕ
  pub works : WorksOn part slave
  pub to : station_of call.sent.address ≡ station slave

-- All of it was.
abbrev pub AreFor : Option LinePart → List Exchanged → Type 0
AreFor part calls = All (IsForPart part) calls

-- Nothing more is sent, or the device of this part works on this slave.
abbrev pub SendsAsPart : Option LinePart → (slave : ℕ) → (old new : List Exchange) → Type 0
SendsAsPart part slave old new = (new ≡ old) ⊎ WorksOn part slave
