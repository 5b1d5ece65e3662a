-- Halves to whose words nothing happened but that they may have become idle.
use Rattle.std.proofs.Common.{◌≡◌, ℕ, inl, inr, List, length, None, refl, sym, ap, subst, ◌∙◌}
use Rattle.ecat_frame.specs.Frame.{Pdu}
use Rattle.esc_model.specs.SlaveHalf.{SlaveHalf, Activity, Idle, Reading, Writing, in_flight, MayRest, MayHold, MayLeave}
use Rattle.esc_model.specs.declared.rest.WordWrite.{WordWrite}
use Rattle.esc_model.specs.Datagrams.{Receives}
use Rattle.esc_model.specs.WordAccess.{OnlyRests, IsGentle}
use Rattle.esc_model.proofs.Resting.{MayEnd-is_idle, MayEnd-words, MayRest-station, length-MayLeave}

pub OnlyRests-same : (half : SlaveHalf) → OnlyRests half half
OnlyRests-same half = record { station = refl; words = inl (refl, refl) }

pub MayRest-only : (half later : SlaveHalf) → MayRest half later → OnlyRests half later
MayRest-only half later (inl same) = record {
  station = ap (λ (h : SlaveHalf). h.station) same;
  words = inl (ap (λ (h : SlaveHalf). h.words) same, ap (λ (h : SlaveHalf). in_flight h.activity) same);
}
MayRest-only half later (inr ends) = record {
  station = MayRest-station half later (inr ends);
  words = inr (ap in_flight (MayEnd-is_idle half.activity half later ends), MayEnd-words half.activity half later ends);
}

-- what a power cut may leave follows from the words and the word in flight
MayHold-by_flight : (a b : Activity) (words left : List ℕ) → in_flight a ≡ in_flight b → MayHold a words left → MayHold b words left
MayHold-by_flight Idle Idle words left same holds = holds
MayHold-by_flight Idle Reading words left same holds = holds
MayHold-by_flight Idle (Writing w v) words left same holds = absurd cc
MayHold-by_flight Reading Idle words left same holds = holds
MayHold-by_flight Reading Reading words left same holds = holds
MayHold-by_flight Reading (Writing w v) words left same holds = absurd cc
MayHold-by_flight (Writing w v) Idle words left same holds = absurd cc
MayHold-by_flight (Writing w v) Reading words left same holds = absurd cc
MayHold-by_flight (Writing w v) (Writing x y) words left same holds =
    let one : ◌≡◌ {A = WordWrite} (record { word = w; value = v }) (record { word = x; value = y }) = cc in
    let e : w ≡ x = ap (λ (r : WordWrite). r.word) one in
    subst (λ (word : ℕ). MayHold (Writing word y) words left) e holds

MayHold-none : (activity : Activity) (words left : List ℕ) → in_flight activity ≡ None → MayHold activity words left → left ≡ words
MayHold-none Idle words left none holds = holds
MayHold-none Reading words left none holds = holds
MayHold-none (Writing w v) words left none holds = absurd cc

-- where nothing is in flight a power cut leaves only the words
pub MayLeave-none : (half : SlaveHalf) (left : List ℕ) → in_flight half.activity ≡ None → MayLeave half left → left ≡ half.words
MayLeave-none half left none leaves = MayHold-none half.activity half.words left none leaves

leaves_by : (half later : SlaveHalf) (left : List ℕ) → OnlyRests half later
    → ((later.words ≡ half.words) × (in_flight later.activity ≡ in_flight half.activity) → MayLeave later left → MayLeave half left)
leaves_by half later left rests same leaves =
    MayHold-by_flight later.activity half.activity half.words left same.1 (subst (λ (w : List ℕ). MayHold later.activity w left) same.0 leaves)

-- it adds nothing to what a power cut may leave
pub OnlyRests-leaves : (half later : SlaveHalf) (left : List ℕ) → OnlyRests half later → MayLeave later left → MayLeave half left
OnlyRests-leaves half later left rests leaves =
    elim rests.words [
      | inl same ↦ leaves_by half later left rests same leaves
      | inr lands ↦ subst (λ (w : List ℕ). MayLeave half w) (sym (MayLeave-none later left lands.0 leaves)) lands.1
    ]

-- two in a row are one
pub OnlyRests-then : (a b c : SlaveHalf) → OnlyRests a b → OnlyRests b c → OnlyRests a c
OnlyRests-then a b c first second = record {
  station = second.station ∙ first.station;
  words = elim second.words [
    | inr lands ↦ inr (lands.0, OnlyRests-leaves a b c.words first lands.1)
    | inl same ↦ elim first.words [
      | inl was ↦ inl (same.0 ∙ was.0, same.1 ∙ was.1)
      | inr landed ↦ inr (same.1 ∙ landed.0, subst (λ (w : List ℕ). MayLeave a w) (sym same.0) landed.1)
    ]
  ];
}

-- where nothing is in flight the words stay
pub OnlyRests-none : (half later : SlaveHalf) → in_flight half.activity ≡ None → OnlyRests half later
    → (later.words ≡ half.words) × (in_flight later.activity ≡ None)
OnlyRests-none half later none rests =
    elim rests.words [
      | inl same ↦ (same.0, same.1 ∙ none)
      | inr lands ↦ (MayLeave-none half later.words none lands.1, lands.0)
    ]

-- a datagram that brings nothing into flight
pub Receives-only : (order : Pdu) (half later : SlaveHalf) → IsGentle order → Receives order half later → OnlyRests half later
Receives-only order half later gentle receives =
    OnlyRests-then half receives.rested later (MayRest-only half receives.rested receives.rests)
    (subst (λ (h : SlaveHalf). OnlyRests receives.rested h) (sym receives.is) (gentle receives.rested))

-- the number of words stays
pub OnlyRests-length : (half later : SlaveHalf) → OnlyRests half later → length later.words ≡ length half.words
OnlyRests-length half later only = elim only.words [
  | inl same ↦ ap length same.0
  | inr lands ↦ length-MayLeave half later.words lands.1
]
