use Rattle.std.proofs.Common.{◌≡◌, ℕ, ◌+◌, ◌*◌, ◌%◌, ◌<◌, ◌/◌, true, false, Some, None, Ok, is_some, List, length, length-set, slice_set, refl, sym, ap, subst, ◌∙◌, arith}
use Rattle.site_core.specs.Line.{Line, Owns}
use Rattle.esc_rom.specs.Runs.{Ran, Waited}
use Rattle.esc_rom.specs.WordPairs.{ReadsPair, ReadsAll}
use Rattle.esc_rom.proofs.Runs.{Ran-reported, Ran-cut, IsCut-more, cut_as}
use Rattle.esc_rom.proofs.AllWords.{Filled, filled_none, filled_more, filled_not, filled_all, never_rests}
use Rattle.rom_steps.specs.Courses.{Ends, OnlyIf, InTurn}
use Rattle.rom_steps.specs.Accesses.{WaitsBy, ReadsPairBy}
use Rattle.esc_rom.specs.Sent.{ReadsNext}
use Rattle.esc_rom.proofs.Courses.{takes-none, takes-value, takes-then, takes-cut, rounds-none, rounds-more, rounds-all, rounds-end, rounds-err}
use Rattle.esc_rom.proofs.reading.wait_and_fill.Goals as goal

pub returns-in_err-_rested-clause-runs : goal.returns-in_err-_rested-clause-runs
returns-in_err-_rested-clause-runs g c = cut_as (ReadsAll _ c.args.slave _ c.args.words.now) c.args.slave c.from_residual.result c.from_residual.ensures.0 (IsCut-more (omega arith) c.in_err-_rested.ensures.runs)

pub returns-in_default-clause-runs : goal.returns-in_default-clause-runs
returns-in_default-clause-runs g c = never_rests c.args.words.now (omega arith) (Ran-reported (λ old. Waited old c.args.slave) c.in_default.is c.in_ok-_rested.ensures.runs)

pub loop-pair-init : goal.loop-pair-init
loop-pair-init g c = record {
  ran = filled_none c.in-Some._rested (Ran-reported (λ old. Waited old c.args.slave) c.in-Some.is c.in_ok-_rested.ensures.runs);
  length = refl;
  frames = record {
    rested = c.in-Some._rested;
    mid = g.S.Site.seen c.wait_idle.new.site;
    waits = takes-value (WaitsBy c.args.slave) c.in-Some.is c.in_ok-_rested.ensures.frames;
    rounds = rounds-none (ReadsNext c.args.slave) true (g.S.Site.seen c.wait_idle.new.site);
  };
  line = c.in_ok-_rested.ensures.line;
}

pub read_pair-requires : goal.read_pair-requires
read_pair-requires g c = subst (λ (line : Line). Owns line c.args.slave) (sym c.loop-pair.invariant.line) c.requires

pub returns-in_err-found-clause-runs : goal.returns-in_err-found-clause-runs
returns-in_err-found-clause-runs g c =
    let size = c.len-pair-end.ensures.size in
    let long : c.len-pair-end.result ≡ length c.args.words.now = c.len-pair-end.ensures.len in
    let same_long : length c.loop-pair.words ≡ length c.args.words.now = c.loop-pair.invariant.length in
    cut_as (ReadsAll _ c.args.slave _ c.loop-pair.words) c.args.slave c.from_residual-in_err-found.result c.from_residual-in_err-found.ensures.0 (Ran-cut (omega arith) c.loop-pair.invariant.ran c.in_err-found.ensures.runs)

pub returns-in_default-2-clause-runs : goal.returns-in_default-2-clause-runs
returns-in_default-2-clause-runs g c =
    let size = c.len-pair-end.ensures.size in
    let long : c.len-pair-end.result ≡ length c.args.words.now = c.len-pair-end.ensures.len in
    let same_long : length c.loop-pair.words ≡ length c.args.words.now = c.loop-pair.invariant.length in
    let room : 2 * c.loop-pair.pair + 1 < length c.loop-pair.words = omega arith in
    filled_not c.loop-pair.pair room (omega arith) c.loop-pair.invariant.ran (Ran-reported (λ old. ReadsPair old c.args.slave (2 * c.loop-pair.pair)) c.in_default-2.is c.in_ok-found.ensures.runs)

pub loop-pair-preserved : goal.loop-pair-preserved
loop-pair-preserved g c =
    let size = c.len-pair-end.ensures.size in
    let long : c.len-pair-end.result ≡ length c.args.words.now = c.len-pair-end.ensures.len in
    let same_long : length c.loop-pair.words ≡ length c.args.words.now = c.loop-pair.invariant.length in
    let room : 2 * c.loop-pair.pair + 1 < length c.loop-pair.words = omega arith in
    let i = c.loop-pair.pair in
    let words = c.loop-pair.words in
    let found = c.in-Some-2.found in
    let a = g.S.Site.seen c.args.site.now in
    let d = g.S.Site.seen c.read_pair.new.site in
    let both : List ℕ = slice_set (slice_set words (2 * i) found.first) (2 * i + 1) found.second in
    let more : Ran (Filled c.args.slave both (2 * i + 2)) a c.args.slave (10000 + 30006 * (i + 1)) d =
    filled_more room (omega arith) c.loop-pair.invariant.ran (Ran-reported (λ old. ReadsPair old c.args.slave (2 * c.loop-pair.pair)) c.in-Some-2.is c.in_ok-found.ensures.runs) in
    let set : c.set-in-loop-pair.new.self ≡ both = c.set-in-loop-pair.ensures ∙ ap (λ (w : List ℕ). slice_set w (2 * i + 1) found.second) c.set.ensures in
    let next : 2 * i + 2 ≡ 2 * (i + 1) = omega arith in
    record {
      ran = subst (λ (w : List ℕ). Ran (Filled c.args.slave w (2 * (i + 1))) a c.args.slave (10000 + 30006 * (i + 1)) d) (sym set)
          (subst (λ (n : ℕ). Ran (Filled c.args.slave both n) a c.args.slave (10000 + 30006 * (i + 1)) d) next more);
      length = ap length set ∙ length-set (slice_set words (2 * i) found.first) (2 * i + 1) found.second ∙ length-set words (2 * i) found.first ∙ c.loop-pair.invariant.length;
      frames = let so = c.loop-pair.invariant.frames in record {
        rested = so.rested;
        mid = so.mid;
        waits = so.waits;
        rounds = rounds-more (ReadsNext c.args.slave) true i refl so.rounds
            (takes-then (ReadsPairBy c.args.slave (2 * c.loop-pair.pair)) (λ words. Ends (is_some words)) (Some found) (takes-value (ReadsPairBy c.args.slave (2 * i)) c.in-Some-2.is c.in_ok-found.ensures.frames) (takes-none true d));
      };
      line = c.in_ok-found.ensures.line ∙ c.loop-pair.invariant.line;
    }

pub returns-clause-runs : goal.returns-clause-runs
returns-clause-runs g c =
    let size = c.len-pair-end.ensures.size in
    let long : c.len-pair-end.result ≡ length c.args.words.now = c.len-pair-end.ensures.len in
    let same_long : length c.loop-pair.words ≡ length c.args.words.now = c.loop-pair.invariant.length in
    let even : length c.args.words.now % 64 ≡ 0 = size.2 in
    filled_all (omega arith) (omega arith) c.loop-pair.invariant.ran

pub returns-in_err-_rested-clause-frames : goal.returns-in_err-_rested-clause-frames
returns-in_err-_rested-clause-frames g c = takes-cut (WaitsBy c.args.slave) (λ found. OnlyIf (is_some found) (InTurn (length c.args.words.now / 2) (ReadsNext c.args.slave) true)) c.from_residual.result c.from_residual.ensures.0 c.in_err-_rested.ensures.frames

pub returns-in_default-clause-frames : goal.returns-in_default-clause-frames
returns-in_default-clause-frames g c =
    takes-then (WaitsBy c.args.slave) (λ found. OnlyIf (is_some found) (InTurn (length c.args.words.now / 2) (ReadsNext c.args.slave) true)) None (takes-value (WaitsBy c.args.slave) c.in_default.is c.in_ok-_rested.ensures.frames)
    (takes-none false (g.S.Site.seen c.wait_idle.new.site))

pub returns-in_err-found-clause-frames : goal.returns-in_err-found-clause-frames
returns-in_err-found-clause-frames g c =
    let size = c.len-pair-end.ensures.size in
    let long : c.len-pair-end.result ≡ length c.args.words.now = c.len-pair-end.ensures.len in
    let same_long : length c.loop-pair.words ≡ length c.args.words.now = c.loop-pair.invariant.length in
    let so = c.loop-pair.invariant.frames in
    let result = c.from_residual-in_err-found.result in
    takes-then (WaitsBy c.args.slave) (λ found. OnlyIf (is_some found) (InTurn (length c.args.words.now / 2) (ReadsNext c.args.slave) true)) (Some so.rested) so.waits
    (rounds-err (ReadsNext c.args.slave) true (length c.args.words.now / 2) c.loop-pair.pair result (omega arith) c.from_residual-in_err-found.ensures.0 so.rounds
    (takes-cut (ReadsPairBy c.args.slave (2 * c.loop-pair.pair)) (λ words. Ends (is_some words)) result c.from_residual-in_err-found.ensures.0 c.in_err-found.ensures.frames))

pub returns-in_default-2-clause-frames : goal.returns-in_default-2-clause-frames
returns-in_default-2-clause-frames g c =
    let size = c.len-pair-end.ensures.size in
    let long : c.len-pair-end.result ≡ length c.args.words.now = c.len-pair-end.ensures.len in
    let same_long : length c.loop-pair.words ≡ length c.args.words.now = c.loop-pair.invariant.length in
    let so = c.loop-pair.invariant.frames in
    takes-then (WaitsBy c.args.slave) (λ found. OnlyIf (is_some found) (InTurn (length c.args.words.now / 2) (ReadsNext c.args.slave) true)) (Some so.rested) so.waits
    (rounds-end (ReadsNext c.args.slave) true (length c.args.words.now / 2) c.loop-pair.pair (Ok false) (omega arith) (λ e. absurd cc) so.rounds
    (takes-then (ReadsPairBy c.args.slave (2 * c.loop-pair.pair)) (λ words. Ends (is_some words)) None (takes-value (ReadsPairBy c.args.slave (2 * c.loop-pair.pair)) c.in_default-2.is c.in_ok-found.ensures.frames)
    (takes-none false (g.S.Site.seen c.read_pair.new.site))))

pub returns-clause-frames : goal.returns-clause-frames
returns-clause-frames g c =
    let size = c.len-pair-end.ensures.size in
    let long : c.len-pair-end.result ≡ length c.args.words.now = c.len-pair-end.ensures.len in
    let same_long : length c.loop-pair.words ≡ length c.args.words.now = c.loop-pair.invariant.length in
    let so = c.loop-pair.invariant.frames in
    takes-then (WaitsBy c.args.slave) (λ found. OnlyIf (is_some found) (InTurn (length c.args.words.now / 2) (ReadsNext c.args.slave) true)) (Some so.rested) so.waits
    (rounds-all (ReadsNext c.args.slave) true (length c.args.words.now / 2) c.loop-pair.pair (omega arith) so.rounds)
