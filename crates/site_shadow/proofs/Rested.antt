-- A half that becomes idle as the device says.
use Rattle.std.proofs.Common.{◌≡◌, ℕ, Bool, Some, None, slice_index, sym, ap, ◌∙◌}
use Rattle.esc_model.specs.declared.rest.WordWrite.{WordWrite}
use Rattle.esc_model.specs.declared.rest.Rest.{Rest}
use Rattle.esc_model.specs.declared.rest.Rest.TheVariants as rests
use Rattle.esc_model.specs.SlaveHalf.{SlaveHalf, Activity, Idle, Reading, Writing, in_flight, ended, reading_ended, rested_by}
use Rattle.site_shadow.specs.Resting.{Ends, keeping}

-- with a word in flight
ends : (activity : Activity) (half later : SlaveHalf) (write : WordWrite) (rest : Rest) (failed : Bool) → in_flight activity ≡ Some write
    → later ≡ rested_by activity rest half → Ends activity rest failed half later
ends Idle half later write rest failed flying is = absurd cc
ends Reading half later write rest failed flying is = absurd cc
ends (Writing word value) half later write rest failed flying is = is

pub ends_a_write : (half later : SlaveHalf) (write : WordWrite) (rest : Rest) (failed : Bool) → in_flight half.activity ≡ Some write
    → later ≡ rested_by half.activity rest half → Ends half.activity rest failed half later
ends_a_write half later write rest failed flying is = ends half.activity half later write rest failed flying is

-- one that keeps its old value
keeps : (activity : Activity) (half later : SlaveHalf) (write : WordWrite) (kept : ℕ) (failed : Bool) → in_flight activity ≡ Some write
    → kept ≡ slice_index half.words write.word → later ≡ rested_by activity (rests.Failed kept) half
    → Ends activity (keeping activity half.words) failed half later
keeps Idle half later write kept failed flying old is = absurd cc
keeps Reading half later write kept failed flying old is = absurd cc
keeps (Writing word value) half later write kept failed flying old is =
    let same : kept ≡ slice_index half.words word =
    old ∙ (let e : (record { word = word; value = value }) ≡ write = cc in ap (λ (w : WordWrite). slice_index half.words w.word) (sym e)) in
    is ∙ ap (λ (n : ℕ). ended (rests.Failed n) half word value) same

pub keeps_a_write : (half later : SlaveHalf) (write : WordWrite) (kept : ℕ) (failed : Bool) → in_flight half.activity ≡ Some write
    → kept ≡ slice_index half.words write.word → later ≡ rested_by half.activity (rests.Failed kept) half
    → Ends half.activity (keeping half.activity half.words) failed half later
keeps_a_write half later write kept failed flying old is = keeps half.activity half later write kept failed flying old is

-- without one
ends_none : (activity : Activity) (half later : SlaveHalf) (rest : Rest) (failed : Bool) → in_flight activity ≡ None
    → later ≡ reading_ended activity failed half → Ends activity rest failed half later
ends_none Idle half later rest failed none is = is
ends_none Reading half later rest failed none is = is
ends_none (Writing word value) half later rest failed none is = absurd cc

pub ends_no_write : (half later : SlaveHalf) (rest : Rest) (failed : Bool) → in_flight half.activity ≡ None
    → later ≡ reading_ended half.activity failed half → Ends half.activity rest failed half later
ends_no_write half later rest failed none is = ends_none half.activity half later rest failed none is
