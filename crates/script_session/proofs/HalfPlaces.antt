-- The EEPROM half of a slave that is put at its place, or taken from there.
use Rattle.std.proofs.Common.{◌≡◌, ℕ, ◌<◌, List, [], length, set, Some, Option, Result, Ok, Err, sym, ◌∙◌, ap, subst, arith}
use Rattle.std.specs.Prelude.{slice_get, option_map, IfOk}
use Rattle.std.proofs.lemmas.List.{length-set, get_or-set_same}
use Rattle.std.proofs.lemmas.Option.{slice_get-map, slice_get-get_or}
use Rattle.esc_model.specs.SlaveHalf.{SlaveHalf}
use Rattle.site_shadow.specs.Line.{half_of, halves_of}
use Rattle.site_shadow.specs.Site.{SiteValue}
use Rattle.site_shadow.specs.Parts.{site_of}
use Rattle.site_shadow.specs.declared.site.Parts.{Parts}
use Rattle.script_session.specs.Parts.{BeginsWith, HasHalf}

-- the half at a place
pub half-here : (halves : List (Option SlaveHalf)) (slave : ℕ) (half : Option SlaveHalf) → slice_get halves slave ≡ Some half → slice_get (halves_of halves) slave ≡ Some (half_of half)
half-here halves slave half is = slice_get-map half_of halves slave ∙ ap (option_map half_of) is

-- the half was put at its place
pub half-put : {E : Type 0} (result : Result SiteValue E) (parts : Parts) (halves : List (Option SlaveHalf)) (slave : ℕ) (half : Option SlaveHalf) → slave < length halves → parts.halves.items ≡ set halves slave half → IfOk result (λ (site : SiteValue). site ≡ site_of parts)
    → IfOk result (λ (site : SiteValue). site.seen.past ≡ []) → IfOk result (λ (site : SiteValue). BeginsWith slave (half_of half) site)
half-put (Ok site) parts halves slave half inside is made new =
    let long = length-set halves slave half in
    let there = slice_get-get_or (set halves slave half) slave half (omega (arith, inside, long)) ∙ ap Some (get_or-set_same halves slave half half inside) in
    record {
      has = subst (λ (s : SiteValue). HasHalf slave (half_of half) s) (sym made) (half-here parts.halves.items slave half (ap (λ (l : List (Option SlaveHalf)). slice_get l slave) is ∙ there));
      new = new;
    }
half-put (Err fault) parts halves slave half inside is made new = tt

-- the half is taken from the parts of a site
pub half-taken : (site : SiteValue) (halves : List (Option SlaveHalf)) (slave : ℕ) (half : Option SlaveHalf) → halves_of halves ≡ site.seen.state.halves → slice_get halves slave ≡ Some half → HasHalf slave (half_of half) site
half-taken site halves slave half same is = subst (λ (l : List SlaveHalf). slice_get l slave ≡ Some (half_of half)) same (half-here halves slave half is)
