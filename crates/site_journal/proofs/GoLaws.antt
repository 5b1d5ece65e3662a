-- Calls in a row keep what each of them keeps.
use Rattle.std.proofs.Common.{◌≡◌, ℕ, ◌≤◌, List, ◌++◌, length, take, sym, ap, subst, arith, length-append}
use Rattle.std.proofs.lemmas.List.{take_all, take-append-le}
use Rattle.sii_edit.specs.declared.command.Command.{Command}
use Rattle.site_core.specs.State.{Pair, Leaves, Seen}
use Rattle.site_core.specs.Passes.{LeavesOnly, StaysWithin, AddsNothing}
use Rattle.site_core.proofs.Runs.{Passes-weaker, Passes-stays, Passes-then}
use Rattle.book_model.specs.Machine.{Machine}
use Rattle.world_law.specs.Law.{KeptFor}
use Rattle.site_journal.specs.Running.{KeepsAll, KeptWith, KeepsWith, with_commands}

-- pairs that are such are also such
pub stays-weaker : (P Q : Pair → Type 0) (old new : Seen) → ((pair : Pair) → P pair → Q pair) → StaysWithin P old new → StaysWithin Q old new
stays-weaker P Q old new so stays = Passes-stays Q old new (Passes-weaker (LeavesOnly P) (LeavesOnly Q) old new (λ s only pair leaves. so pair (only pair leaves)) stays.passes)

pub stays-then : (Q : Pair → Type 0) (a b c : Seen) → StaysWithin Q a b → StaysWithin Q b c → StaysWithin Q a c
stays-then Q a b c first second = Passes-stays Q a c (Passes-then (LeavesOnly Q) a b c first.passes second.passes)

-- what adds nothing leaves only what was kept already
pub keeps-still : (m : Machine) (old new : Seen) → AddsNothing old new → LeavesOnly (KeptFor m) old.state → KeepsAll m old new
keeps-still m old new adds kept = stays-weaker (Leaves old.state) (KeptFor m) old new kept adds

-- with fewer commands acknowledged
pub kept-less : (m : Machine) (accepted : List Command) (count : ℕ) (pair : Pair) → m.acknowledged ≤ count → KeptFor (record m { accepted = accepted; acknowledged = count }) pair → KeptFor (record m { accepted = accepted }) pair
kept-less m accepted count pair few kept = record {
  journal = kept.journal;
  live = kept.live;
  k = kept.k;
  may_keep = let least = kept.may_keep.0 in (omega (arith, few, least), kept.may_keep.1);
  same = kept.same;
}

-- a call while all these commands are accepted
pub keeps-all_with : (m : Machine) (commands : List Command) (count : ℕ) (old new : Seen) → m.acknowledged ≤ count → KeepsAll (with_commands m commands count) old new → KeepsWith m commands old new
keeps-all_with m commands count old new few keeps =
    stays-weaker (KeptFor (with_commands m commands count)) (KeptWith m commands) old new
    (λ pair kept.
    let less = kept-less m (m.accepted ++ commands) count pair few kept in
    let all : m.accepted ++ commands ≡ m.accepted ++ take (length commands) commands = ap (λ (l : List Command). m.accepted ++ l) (sym (take_all (length commands) commands (omega arith))) in
    (length commands, omega arith, subst (λ (l : List Command). KeptFor (record m { accepted = l }) pair) all less))
    keeps

-- more commands are accepted later
pub keeps-more : (m : Machine) (commands more : List Command) (old new : Seen) → KeepsWith m commands old new → KeepsWith m (commands ++ more) old new
keeps-more m commands more old new keeps =
    stays-weaker (KeptWith m commands) (KeptWith m (commands ++ more)) old new
    (λ pair kept.
    let same : take kept.0 commands ≡ take kept.0 (commands ++ more) = sym (take-append-le kept.0 commands more kept.1) in
    (kept.0, omega (arith, kept.1, length-append commands more), subst (λ (l : List Command). KeptFor (record m { accepted = m.accepted ++ l }) pair) same kept.2))
    keeps
