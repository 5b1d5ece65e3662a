-- What several calls ask, one after the other.
use Rattle.std.proofs.Common.{◌≡◌, ℕ, ◌*◌, Bool, true, false, List, [], ◌∷◌, ◌++◌, refl, sym, ap, ◌∙◌, append_assoc}
use Rattle.std.proofs.lemmas.List.{append-nil}
use Rattle.std.specs.declared.snapshot.Snapshot.{Snapshot}
use Rattle.std.specs.Int.{w16, to_le_bytes}
use Rattle.site_file.specs.declared.asking.LineFile.{LineFile}
use Rattle.site_file.specs.declared.asking.Log.{Log}
use Rattle.site_file.specs.Calls.{Asked, asked, writes, syncs}
use Rattle.site_file.specs.Asking.{HasLog, Asks, WritesWord, reaches_sync, unwritten}

-- nothing is asked
pub asks_nothing : (moment : Log) → Asks moment moment []
asks_nothing moment = record { all = sym (append-nil moment.all); begun = refl }

pub asks_both : {a b c : Log} (x y : List Asked) → Asks a b x → Asks b c y → Asks a c (x ++ y)
asks_both {a} {b} {c} x y first second = record {
  all = second.all ∙ ap (λ (l : List Asked). l ++ y) first.all ∙ append_assoc a.all x y;
  begun = second.begun ∙ first.begun;
}

-- The log goes on by what is asked.
pub goes_on : {old new : Log} {calls : List Asked} → Asks old new calls → (log : List Asked) → HasLog old log → HasLog new (log ++ calls)
goes_on {old} {new} {calls} asks log had =
    asks.all ∙ ap (λ (l : List Asked). l ++ calls) had ∙ append_assoc old.begun.value log calls
    ∙ ap (λ (s : Snapshot (List Asked)). s.value ++ (log ++ calls)) (sym asks.begun)

pub word_unwritten : {file : LineFile} {old new : Log} (word value place : ℕ) (bytes : List ℕ) (done : Bool)
    → place ≡ word → bytes ≡ to_le_bytes w16 value → done ≡ false
    → Asks old new (asked file (writes (place * 2) bytes) done ∷ []) → WritesWord file word value old false new
word_unwritten word value place bytes done place_is bytes_are failed asks =
    record { calls = _; asks = rw (place_is, bytes_are, failed) at asks; are = unwritten }

pub word_written : {file : LineFile} {old mid new : Log} (word value place : ℕ) (bytes : List ℕ) (wrote synced : Bool)
    → place ≡ word → bytes ≡ to_le_bytes w16 value → wrote ≡ true
    → Asks old mid (asked file (writes (place * 2) bytes) wrote ∷ []) → Asks mid new (asked file syncs synced ∷ [])
    → WritesWord file word value old synced new
word_written word value place bytes wrote synced place_is bytes_are done asks syncs_it =
    record {
      calls = _;
      asks = asks_both _ _ (rw (place_is, bytes_are, done) at asks) syncs_it;
      are = reaches_sync synced;
    }
