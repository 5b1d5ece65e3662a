-- EEPROM halves that are put into sites, and taken from them, one by one.
use Rattle.std.proofs.Common.{◌≡◌, ℕ, zero, suc, take, slice_get, ◌+◌, List, [], ◌∷◌, ◌++◌, length, Some, None, Option, Result}
use Rattle.std.proofs.Common.{Ok, Err, refl, sym, ◌∙◌, ap, subst, arith}
use Rattle.std.specs.Prelude.{is_some, IfSome, IfOk, IsOkAnd, IsTrue}
use Rattle.std.specs.Global.{Vec}
use Rattle.std.specs.List.{AllByRecursion}
use Rattle.std.proofs.lemmas.Bool.{false≢true}
use Rattle.std.proofs.lemmas.List.{length-map, map-append}
use Rattle.esc_model.specs.SlaveHalf.{SlaveHalf}
use Rattle.site_shadow.specs.Line.{half_of, halves_of}
use Rattle.site_shadow.specs.Site.{SiteValue}
use Rattle.site_shadow.specs.Parts.{bytes_or_none, site_of}
use Rattle.site_shadow.specs.declared.site.Parts.{Parts}
use Rattle.site_shadow.specs.Unsynced.{of_bytes}
use Rattle.station_threads.specs.declared.closing.Ends.{Ends}
use Rattle.station_jobs.specs.declared.log.SlaveLog.{SlaveLog}
use Rattle.station_jobs.specs.Ends.{Stay}
use Rattle.station_threads.specs.Places.{AllPlaced}
use Rattle.station_threads.proofs.PlaceLaws.{placed-long, placed-more}
use Rattle.script_session.specs.Parts.{BeginsWith, HasDiskOf, EndsWith, IsLineOf, IsTogether}

-- one site more
pub sites-more : (halves : List (Option SlaveHalf)) (sites : List SiteValue) (half : Option SlaveHalf) (site : SiteValue) (slave : ℕ) → AllPlaced BeginsWith 0 (halves_of halves) sites → slave ≡ length sites → BeginsWith slave (half_of half) site
    → AllPlaced BeginsWith 0 (halves_of (halves ++ half ∷ [])) (sites ++ site ∷ [])
sites-more halves sites half site slave all is has =
    let long = placed-long BeginsWith 0 (halves_of halves) sites all in
    let here : slave ≡ 0 + length (halves_of halves) = omega (arith, long, is) in
    subst (λ (l : List SlaveHalf). AllPlaced BeginsWith 0 l (sites ++ site ∷ [])) (sym (map-append half_of halves (half ∷ [])))
    (placed-more BeginsWith 0 (halves_of halves) sites (half_of half) site all (subst (λ (n : ℕ). BeginsWith n (half_of half) site) here has))

-- one half more
pub halves-more : (ends : List (Stay SiteValue SlaveLog)) (halves : List (Option SlaveHalf)) (end : Stay SiteValue SlaveLog) (half : Option SlaveHalf) (slave : ℕ) → AllPlaced EndsWith 0 ends (halves_of halves) → slave ≡ length halves → EndsWith slave end (half_of half)
    → AllPlaced EndsWith 0 (ends ++ end ∷ []) (halves_of (halves ++ half ∷ []))
halves-more ends halves end half slave all is has =
    let long = placed-long EndsWith 0 ends (halves_of halves) all in
    let many = length-map halves half_of in
    let here : slave ≡ 0 + length ends = omega (arith, long, many, is) in
    subst (λ (l : List SlaveHalf). AllPlaced EndsWith 0 (ends ++ end ∷ []) l) (sym (map-append half_of halves (half ∷ [])))
    (placed-more EndsWith 0 ends (halves_of halves) end (half_of half) all (subst (λ (n : ℕ). EndsWith n end (half_of half)) here has))

-- one half more, unless one is missing
pub half-joins : {E : Type 0} (ends : List (Stay SiteValue SlaveLog)) (halves : Result (Vec (Option SlaveHalf)) E) (half : Result (Option SlaveHalf) E)
    (more : Result (Vec (Option SlaveHalf)) E) (end : Stay SiteValue SlaveLog) (slave : ℕ) → slave ≡ length ends
    → IfOk halves (λ (had : Vec (Option SlaveHalf)). AllPlaced EndsWith 0 ends (halves_of had.items)) → IfOk half (λ (one : Option SlaveHalf). EndsWith slave end (half_of one))
    → IfOk more (λ (m : Vec (Option SlaveHalf)). IsOkAnd halves (λ had. IsOkAnd half (λ one. m.items ≡ had.items ++ one ∷ [])))
    → IfOk more (λ (m : Vec (Option SlaveHalf)). AllPlaced EndsWith 0 (ends ++ end ∷ []) (halves_of m.items))
half-joins ends halves half (Err fault) end slave here all has joins = tt
half-joins ends (Ok had) (Ok one) (Ok more) end slave here all has joins =
    subst (λ (l : List (Option SlaveHalf)). AllPlaced EndsWith 0 (ends ++ end ∷ []) (halves_of l)) (sym joins)
    (halves-more ends had.items end one slave all (let many = placed-long EndsWith 0 ends (halves_of had.items) all in let same = length-map had.items half_of in omega (arith, many, same, here)) has)
half-joins ends (Ok had) (Err fault) (Ok more) end slave here all has joins = absurd joins
half-joins ends (Err fault) half (Ok more) end slave here all has joins = absurd joins

-- ---- what is put together

made-of : (disk : Option (Vec ℕ)) (parts : Parts) → parts.disk ≡ disk → HasDiskOf disk (site_of parts)
made-of (Some b) parts is = ap (λ (d : Option (Vec ℕ)). of_bytes (bytes_or_none d)) is
made-of None parts is = ap (λ (d : Option (Vec ℕ)). is_some d) is

-- a site of these parts has their bytes
pub disk-of-parts : (site : SiteValue) (parts : Parts) → site ≡ site_of parts → HasDiskOf parts.disk site
disk-of-parts site parts is = subst (λ (s : SiteValue). HasDiskOf parts.disk s) (sym is) (made-of parts.disk parts refl)

bytes-same : (disk : Option (Vec ℕ)) (site : SiteValue) (bytes : List ℕ) → IsTrue site.line.has_disk → HasDiskOf disk site → IfSome disk (λ (b : Vec ℕ). b.items ≡ bytes) → site.seen.state.disk ≡ of_bytes bytes
bytes-same (Some b) site bytes has_disk is same = is ∙ ap of_bytes same
bytes-same None site bytes has_disk is same = absurd (false≢true (sym is ∙ has_disk))

-- the line of these ends
pub puts-together : {E : Type 0} (result : Result SiteValue E) (slaves : ℕ) (site : SiteValue) (disk : Option (Vec ℕ)) (halves : List (Option SlaveHalf)) (workers : List (Stay SiteValue SlaveLog)) (ends : Ends SiteValue)
    → IfOk result (λ (entire : SiteValue). (entire ≡ site) × IsLineOf slaves entire.line) → site.seen.past ≡ [] → HasDiskOf disk site
    → IfSome disk (λ (b : Vec ℕ). b.items ≡ ends.flusher.site.seen.state.disk.bytes) → site.seen.state.halves ≡ halves_of halves → workers ≡ ends.workers.items → AllPlaced EndsWith 0 workers (halves_of halves)
    → IfOk result (λ (entire : SiteValue). IsTogether ends entire × IsLineOf slaves entire.line)
puts-together (Ok entire) slaves site disk halves workers ends is new there bytes held same all =
    let has_disk : IsTrue site.line.has_disk = subst (λ (s : SiteValue). IsTrue s.line.has_disk) is.0 is.1.disk in
    let here : IsTogether ends site = record {
      new = new;
      disk = bytes-same disk site ends.flusher.site.seen.state.disk.bytes has_disk there bytes;
      halves = subst (λ (l : List SlaveHalf). AllPlaced EndsWith 0 ends.workers.items l) (sym held) (subst (λ (l : List (Stay SiteValue SlaveLog)). AllPlaced EndsWith 0 l (halves_of halves)) same all);
    } in
    (subst (λ (s : SiteValue). IsTogether ends s) (sym is.0) here, is.1)
puts-together (Err fault) slaves site disk halves workers ends is new there bytes held same all = tt

-- ---- the devices behind the ends

-- one item more
pub all_more : {A : Type 0} (P : A → Type 0) (xs : List A) (x : A) → AllByRecursion P xs → P x → AllByRecursion P (xs ++ x ∷ [])
all_more P [] x all one = (one, tt)
all_more P (y ∷ xs) x all one = (all.0, all_more P xs x all.1 one)

-- the first items, and the next one
pub all_next : {A : Type 0} (P : A → Type 0) (xs : List A) (i : ℕ) (x : A) → AllByRecursion P (take i xs) → slice_get xs i ≡ Some x → P x
    → AllByRecursion P (take (i + 1) xs)
all_next P xs i x all here one =
    let same : suc i ≡ i + 1 = omega arith in
    subst (λ (n : ℕ). AllByRecursion P (take n xs)) same
    (subst (AllByRecursion P) (sym (take_next xs i x here)) (all_more P (take i xs) x all one))
  where
    take_next : {A : Type 0} (xs : List A) (i : ℕ) (x : A) → slice_get xs i ≡ Some x → take (suc i) xs ≡ take i xs ++ x ∷ []
    take_next [] i x here = absurd cc
    take_next (y ∷ xs) zero x here = let same : y ≡ x = cc in ap (λ z. z ∷ []) same
    take_next (y ∷ xs) (suc i) x here = ap (λ l. y ∷ l) (take_next xs i x here)
