-- Becoming idle and power cuts: what each adds to what a power cut may leave.
use Rattle.std.proofs.Common.{◌≡◌, ℕ, Bool, false, inl, inr, List, length, refl, sym, ap, subst, ◌∙◌, slice_index, slice_set, length-set}
use Rattle.std.proofs.lemmas.List.{set-get_or}
use Rattle.esc_model.specs.Registers.{access_byte}
use Rattle.esc_model.specs.SlaveHalf.{SlaveHalf, Activity, Idle, Reading, Writing, with_errors, MayEnd, MayRest, MayHold, MayLeave, IsTorn, MayStop}

-- a power cut may leave the words as they are
pub MayHold-same : (activity : Activity) (words : List ℕ) → MayHold activity words words
MayHold-same Idle words = refl
MayHold-same Reading words = refl
MayHold-same (Writing word value) words = (slice_index words word, sym (set-get_or words word 0))

pub MayLeave-same : (half : SlaveHalf) → MayLeave half half.words
MayLeave-same half = MayHold-same half.activity half.words

-- an idle half stays as it is
MayEnd-idle : (activity : Activity) (half later : SlaveHalf) → activity ≡ Idle → MayEnd activity half later → later ≡ half
MayEnd-idle Idle half later is ends = absurd ends
MayEnd-idle Reading half later is ends = absurd cc
MayEnd-idle (Writing word value) half later is ends = absurd cc

pub MayRest-idle : (half later : SlaveHalf) → half.activity ≡ Idle → MayRest half later → later ≡ half
MayRest-idle half later is (inl same) = same
MayRest-idle half later is (inr ends) = MayEnd-idle half.activity half later is ends

-- what is no part of the words, of bits 13 and 14 and of what the half is doing stays as it is
MayEnd-keeps : {A : Type 0} (f : SlaveHalf → A) (activity : Activity) (half later : SlaveHalf)
    → ((words : List ℕ) (command_error enable_error : Bool) → f (with_errors (record half { words = words; activity = Idle }) command_error enable_error) ≡ f half)
    → MayEnd activity half later → f later ≡ f half
MayEnd-keeps f Idle half later keeps ends = absurd ends
MayEnd-keeps f Reading half later keeps (inl well) = ap f well ∙ keeps half.words half.registers.command_error half.registers.enable_error
MayEnd-keeps f Reading half later keeps (inr fails) = ap f fails.rested_is ∙ keeps half.words later.registers.command_error later.registers.enable_error
MayEnd-keeps f (Writing word value) half later keeps (inl well) = ap f well ∙ keeps (slice_set half.words word value) false false
MayEnd-keeps f (Writing word value) half later keeps (inr fails) =
    ap f fails.ends.rested_is ∙ keeps (slice_set half.words word fails.left) later.registers.command_error later.registers.enable_error

MayRest-keeps : {A : Type 0} (f : SlaveHalf → A) (half later : SlaveHalf)
    → ((words : List ℕ) (command_error enable_error : Bool) → f (with_errors (record half { words = words; activity = Idle }) command_error enable_error) ≡ f half)
    → MayRest half later → f later ≡ f half
MayRest-keeps f half later keeps (inl same) = ap f same
MayRest-keeps f half later keeps (inr ends) = MayEnd-keeps f half.activity half later keeps ends

pub MayRest-station : (half later : SlaveHalf) → MayRest half later → later.station ≡ half.station
MayRest-station half later rests = MayRest-keeps (λ h. h.station) half later (λ words c e. refl) rests

pub MayRest-access : (half later : SlaveHalf) → MayRest half later → access_byte later.registers ≡ access_byte half.registers
MayRest-access half later rests = MayRest-keeps (λ h. access_byte h.registers) half later (λ words c e. refl) rests

-- what has ended is idle
pub MayEnd-is_idle : (activity : Activity) (half later : SlaveHalf) → MayEnd activity half later → later.activity ≡ Idle
MayEnd-is_idle Idle half later ends = absurd ends
MayEnd-is_idle Reading half later (inl well) = ap (λ (h : SlaveHalf). h.activity) well
MayEnd-is_idle Reading half later (inr fails) = ap (λ (h : SlaveHalf). h.activity) fails.rested_is
MayEnd-is_idle (Writing word value) half later (inl well) = ap (λ (h : SlaveHalf). h.activity) well
MayEnd-is_idle (Writing word value) half later (inr fails) = ap (λ (h : SlaveHalf). h.activity) fails.ends.rested_is

-- two rests in a row are one
pub MayRest-twice : (half mid later : SlaveHalf) → MayRest half mid → MayRest mid later → MayRest half later
MayRest-twice half mid later (inl same) second = subst (λ (h : SlaveHalf). MayRest h later) same second
MayRest-twice half mid later (inr ends) second =
    let is : later ≡ mid = MayRest-idle mid later (MayEnd-is_idle half.activity half mid ends) second in
    inr (subst (λ (h : SlaveHalf). MayEnd half.activity half h) (sym is) ends)

-- the words that an ended activity has
pub MayEnd-words : (activity : Activity) (half later : SlaveHalf) → MayEnd activity half later → MayHold activity half.words later.words
MayEnd-words Idle half later ends = absurd ends
MayEnd-words Reading half later (inl well) = ap (λ (h : SlaveHalf). h.words) well
MayEnd-words Reading half later (inr fails) = ap (λ (h : SlaveHalf). h.words) fails.rested_is
MayEnd-words (Writing word value) half later (inl well) = (value, ap (λ (h : SlaveHalf). h.words) well)
MayEnd-words (Writing word value) half later (inr fails) = (fails.left, ap (λ (h : SlaveHalf). h.words) fails.ends.rested_is)

MayHold-idle : (activity : Activity) (words left : List ℕ) → activity ≡ Idle → MayHold activity words left → left ≡ words
MayHold-idle Idle words left is holds = holds
MayHold-idle Reading words left is holds = absurd cc
MayHold-idle (Writing word value) words left is holds = absurd cc

-- of an idle half a power cut leaves the words as they are
pub MayLeave-idle : (half : SlaveHalf) (left : List ℕ) → half.activity ≡ Idle → MayLeave half left → left ≡ half.words
MayLeave-idle half left is leaves = MayHold-idle half.activity half.words left is leaves

-- becoming idle adds nothing to what a power cut may leave
pub MayRest-leaves : (half later : SlaveHalf) (left : List ℕ) → MayRest half later → MayLeave later left → MayLeave half left
MayRest-leaves half later left (inl same) leaves = subst (λ (h : SlaveHalf). MayLeave h left) same leaves
MayRest-leaves half later left (inr ends) leaves =
    let is : left ≡ later.words = MayLeave-idle later left (MayEnd-is_idle half.activity half later ends) leaves in
    subst (λ (w : List ℕ). MayLeave half w) (sym is) (MayEnd-words half.activity half later ends)

IsTorn-is_idle : (activity : Activity) (half later : SlaveHalf) → IsTorn activity half later → later.activity ≡ Idle
IsTorn-is_idle Idle half later torn = absurd torn
IsTorn-is_idle Reading half later torn = absurd torn
IsTorn-is_idle (Writing word value) half later torn = ap (λ (h : SlaveHalf). h.activity) torn.1

IsTorn-words : (activity : Activity) (half later : SlaveHalf) → IsTorn activity half later → MayHold activity half.words later.words
IsTorn-words Idle half later torn = absurd torn
IsTorn-words Reading half later torn = absurd torn
IsTorn-words (Writing word value) half later torn = (torn.0, ap (λ (h : SlaveHalf). h.words) torn.1)

-- nor does a power cut add anything
pub MayStop-leaves : (half later : SlaveHalf) (left : List ℕ) → MayStop half later → MayLeave later left → MayLeave half left
MayStop-leaves half later left (inl same) leaves = subst (λ (h : SlaveHalf). MayLeave h left) same leaves
MayStop-leaves half later left (inr torn) leaves =
    let is : left ≡ later.words = MayLeave-idle later left (IsTorn-is_idle half.activity half later torn) leaves in
    subst (λ (w : List ℕ). MayLeave half w) (sym is) (IsTorn-words half.activity half later torn)

-- a power cut keeps the number of words
MayHold-length : (activity : Activity) (words left : List ℕ) → MayHold activity words left → length left ≡ length words
MayHold-length Idle words left holds = ap length holds
MayHold-length Reading words left holds = ap length holds
MayHold-length (Writing word value) words left holds = ap length holds.1 ∙ simp length-set

pub length-MayLeave : (half : SlaveHalf) (left : List ℕ) → MayLeave half left → length left ≡ length half.words
length-MayLeave half left leaves = MayHold-length half.activity half.words left leaves
