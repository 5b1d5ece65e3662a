-- The journal's file is written, and then the slaves' files.
use Rattle.std.proofs.Common.{◌≡◌, ◌≢◌, ℕ, List, [], ◌∷◌, Option, Result, Ok, Err, OnOk, IfSome, IsSomeAnd, sym, subst, ◌∙◌}
use Rattle.std.proofs.Common.{arith}
use Rattle.std.proofs.lemmas.List.Elements.{Contains-append_left, Contains-append_right}
use Rattle.station_files.specs.Files.{Known, HasBytes, ChangesOnly, ChangesAmong, HoldsAll}

-- the journal's file keeps its bytes, unless a slave's file has the same name
pub holds_line : (mid new : Known) (journal bytes : List ℕ) (names contents : List (List ℕ)) → HasBytes mid journal bytes → ChangesAmong mid new names → HoldsAll new names contents → HoldsAll new (journal ∷ names) (bytes ∷ contents)
holds_line mid new journal bytes names contents here changes held =
    let P : Option (Option (List ℕ)) → Type 0 = λ found. IfSome found (λ h. IsSomeAnd h (λ there. bytes ≡ there)) in
    ((λ absent. subst P (sym (changes journal absent)) here), held)

pub holds_line_ok : {T E : Type 0} (result : Result T E) (mid new : Known) (journal bytes : List ℕ) (names contents : List (List ℕ)) → HasBytes mid journal bytes → ChangesAmong mid new names → OnOk result (HoldsAll new names contents) → OnOk result (HoldsAll new (journal ∷ names) (bytes ∷ contents))
holds_line_ok (Ok done) mid new journal bytes names contents here changes held = holds_line mid new journal bytes names contents here changes held
holds_line_ok (Err fault) mid new journal bytes names contents here changes held = tt

-- no other file changes
pub changes_line : (old mid new : Known) (journal : List ℕ) (names : List (List ℕ)) → ChangesOnly old mid journal → ChangesAmong mid new names → ChangesAmong old new (journal ∷ names)
changes_line old mid new journal names first then = λ other absent.
    let separate : other ≢ journal = λ same. absent (Contains-append_left (journal ∷ []) names other (0, omega arith, sym same)) in
    then other (λ there. absent (Contains-append_right (journal ∷ []) names other there)) ∙ first other separate
