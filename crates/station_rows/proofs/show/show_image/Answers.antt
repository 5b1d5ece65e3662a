use Rattle.std.proofs.Common.{ℕ, Bool, List, Option, Some, None, IfSome, option_map, inl, inr, subst, sym}
use Rattle.std.proofs.lemmas.Result.{IfErr-weaker, IfOk-weaker}
use Rattle.station_files.specs.Faults.{IsOfStream}
use Rattle.station_files.specs.ImageText.{RefusesInput, text_of}
use Rattle.station_rows.specs.Show.{ShowsImage}
use Rattle.station_files.specs.declared.faults.Fault.{Fault}
use Rattle.station_rows.proofs.show.show_image.Goals as goal

-- what follows for each value follows for the one that is there
if_some : {X : Type 0} (P Q : X → Type 0) (found : Option X) → ((x : X) → P x → Q x) → IfSome found P → IfSome found Q
if_some P Q (Some x) follows here = follows x here
if_some P Q None follows here = tt

-- a stream's fault may be one of a text
stream_refuses : (hex : Bool) (input : Option (List ℕ)) (fault : Fault) → IsOfStream fault → IfSome input (λ text. RefusesInput hex text fault)
stream_refuses hex None fault failed = tt
stream_refuses hex (Some text) fault (inl file) = let P : Fault → Type 0 = λ f. RefusesInput hex text f in subst P (sym file) tt
stream_refuses hex (Some text) fault (inr memory) = let P : Fault → Type 0 = λ f. RefusesInput hex text f in subst P (sym memory) tt

pub returns-clause-status : goal.returns-clause-status
returns-clause-status g c =
    IfOk-weaker c.print_image.result (ShowsImage c.in_ok-image.image) _
    (λ status shown. record {
      listing = shown.listing;
      validated = shown.validated;
      says =
          if_some _ _ (text_of (option_map (λ name. name.now) c.args.shown.file) (g.R.Read.remaining c.args.input.now) (g.S.Store.files c.args.store.now))
          (λ text spelt. record { words = c.in_ok-image.image; spelt = spelt; says = shown.says })
          c.in_ok-image.ensures.read;
    })
    c.print_image.ensures.status

pub returns-clause-refused : goal.returns-clause-refused
returns-clause-refused g c =
    IfErr-weaker c.print_image.result IsOfStream _
    (λ fault failed. stream_refuses c.args.shown.hex (text_of (option_map (λ name. name.now) c.args.shown.file) (g.R.Read.remaining c.args.input.now) (g.S.Store.files c.args.store.now)) fault failed)
    c.print_image.ensures.failed
