use Rattle.std.proofs.Common.{length, slice_index, ◌∙◌}
use Rattle.esc_rom.specs.WordPairs.{ReadsAll}
use Rattle.esc_rom.proofs.Runs.{Ran-value}
use Rattle.esc_rom.proofs.Stops.{rom_stopped, rom_memory}
use Rattle.esc_rom.proofs.AllWords.{reads_ok, reads_dead, reads_cut, reads_refused}
use Rattle.esc_rom.specs.Sent.{FillsBy}
use Rattle.esc_rom.proofs.Courses.{takes-value}
use Rattle.esc_rom.proofs.SentLaws.{read-by, unread-by, read-cut-by, read-refused-by}
use Rattle.esc_rom.proofs.reading.read_all.Goals as goal

pub returns-in_err-wait_and_fill-clause-reads : goal.returns-in_err-wait_and_fill-clause-reads
returns-in_err-wait_and_fill-clause-reads g c =
    reads_cut (g.S.Site.seen c.args.site.now) c.args.slave (slice_index (g.S.Site.line c.args.site.now).sizes c.args.slave) (length c.in_ok-words.words) (g.S.Site.seen c.wait_and_fill.new.site)
    (c.in_ok-words.ensures.count ∙ c.words_of.ensures.size) c.from_residual-in_err-wait_and_fill.result
    (rom_stopped c.from_residual-in_err-wait_and_fill.result c.from_residual-in_err-wait_and_fill.ensures.1) c.in_err-wait_and_fill.ensures.runs

pub returns-then-branch-clause-reads : goal.returns-then-branch-clause-reads
returns-then-branch-clause-reads g c =
    let old = g.S.Site.seen c.args.site.now in
    let new = g.S.Site.seen c.wait_and_fill.new.site in
    reads_ok old c.args.slave (slice_index (g.S.Site.line c.args.site.now).sizes c.args.slave) (length c.in_ok-words.words) new (c.in_ok-words.ensures.count ∙ c.words_of.ensures.size) c.wait_and_fill.new.words
    (c.in_ok-wait_and_fill.ensures.length ∙ c.in_ok-words.ensures.count ∙ c.words_of.ensures.words c.requires)
    (Ran-value (ReadsAll old c.args.slave new c.wait_and_fill.new.words) c.if-branch.true c.in_ok-wait_and_fill.ensures.runs)

pub returns-clause-reads : goal.returns-clause-reads
returns-clause-reads g c =
    let old = g.S.Site.seen c.args.site.now in
    let new = g.S.Site.seen c.wait_and_fill.new.site in
    reads_dead old c.args.slave (slice_index (g.S.Site.line c.args.site.now).sizes c.args.slave) (length c.in_ok-words.words) new (c.in_ok-words.ensures.count ∙ c.words_of.ensures.size) c.wait_and_fill.new.words
    (c.in_ok-wait_and_fill.ensures.length ∙ c.in_ok-words.ensures.count ∙ c.words_of.ensures.size)
    (Ran-value (ReadsAll old c.args.slave new c.wait_and_fill.new.words) c.if-branch.false c.in_ok-wait_and_fill.ensures.runs)

pub returns-in_err-words-clause-reads : goal.returns-in_err-words-clause-reads
returns-in_err-words-clause-reads g c =
    reads_refused (g.S.Site.seen c.args.site.now) c.args.slave (slice_index (g.S.Site.line c.args.site.now).sizes c.args.slave) c.from_residual.result
    (rom_memory c.from_residual.result c.in_err-words.field-0.0 c.from_residual.ensures.1 c.in_err-words.ensures.memory)

pub returns-in_err-wait_and_fill-clause-frames : goal.returns-in_err-wait_and_fill-clause-frames
returns-in_err-wait_and_fill-clause-frames g c =
    read-cut-by c.args.slave (c.in_ok-words.ensures.count ∙ c.words_of.ensures.size) c.from_residual-in_err-wait_and_fill.result
    (rom_stopped c.from_residual-in_err-wait_and_fill.result c.from_residual-in_err-wait_and_fill.ensures.1) c.in_err-wait_and_fill.ensures.frames

pub returns-then-branch-clause-frames : goal.returns-then-branch-clause-frames
returns-then-branch-clause-frames g c =
    read-by c.args.slave (c.in_ok-words.ensures.count ∙ c.words_of.ensures.size) c.wait_and_fill.new.words
    (takes-value (FillsBy c.args.slave (length c.in_ok-words.words)) c.if-branch.true c.in_ok-wait_and_fill.ensures.frames)

pub returns-clause-frames : goal.returns-clause-frames
returns-clause-frames g c =
    unread-by c.args.slave (c.in_ok-words.ensures.count ∙ c.words_of.ensures.size)
    (takes-value (FillsBy c.args.slave (length c.in_ok-words.words)) c.if-branch.false c.in_ok-wait_and_fill.ensures.frames)

pub returns-in_err-words-clause-frames : goal.returns-in_err-words-clause-frames
returns-in_err-words-clause-frames g c =
    read-refused-by c.args.slave (slice_index (g.S.Site.line c.args.site.now).sizes c.args.slave) (g.S.Site.seen c.args.site.now) c.from_residual.result
    (rom_memory c.from_residual.result c.in_err-words.field-0.0 c.from_residual.ensures.1 c.in_err-words.ensures.memory)
