use Rattle.std.proofs.Common.{◌++◌, ◌-◌, ◌<◌, length, map, take, drop, arith}
use Rattle.std.specs.Prelude.{IfSome}
use Rattle.std.proofs.lemmas.Result.{IfOk-at_ok}
use Rattle.sii_cats.specs.Chain.{member_of}
use Rattle.sii_cats.specs.Splice.{new_words}
use Rattle.sii_cats.proofs.Edits.{gap_of, front_is, splice_is, splice_edits}
use Rattle.sii_cats.proofs.edit.splice.Goals as goal

pub slice_bounds-rebuilt-count : goal.slice_bounds-rebuilt-count
slice_bounds-rebuilt-count c =
    (gap_of c.args.words.now c.in_ok-categories.categories.items c.deref.result.now c.in_ok-categories.end c.args.member c.gap-first.result c.requires.least c.in_ok-categories.ensures.walked c.deref.ensures.value c.gap-first.ensures).last

pub slice_bounds-rebuilt-start : goal.slice_bounds-rebuilt-start
slice_bounds-rebuilt-start c =
    (gap_of c.args.words.now c.in_ok-categories.categories.items c.deref.result.now c.in_ok-categories.end c.args.member c.gap-first.result c.requires.least c.in_ok-categories.ensures.walked c.deref.ensures.value c.gap-first.ensures).last

pub rebuilt-requires-clause-first : goal.rebuilt-requires-clause-first
rebuilt-requires-clause-first c =
    let g = gap_of c.args.words.now c.in_ok-categories.categories.items c.deref.result.now c.in_ok-categories.end c.args.member c.gap-first.result c.requires.least c.in_ok-categories.ensures.walked c.deref.ensures.value c.gap-first.ensures in
    omega (arith, g.first, g.last, c.in_ok-categories.ensures.walked.low)

pub returns-clause-exact : goal.returns-clause-exact
returns-clause-exact c =
    let words = c.args.words.now in
    let ms = map (member_of words) c.in_ok-categories.categories.items in
    let g = gap_of words c.in_ok-categories.categories.items c.deref.result.now c.in_ok-categories.end c.args.member c.gap-first.result c.requires.least c.in_ok-categories.ensures.walked c.deref.ensures.value c.gap-first.ensures in
    let inside = IfOk-at_ok (λ xs. IfSome c.args.member (λ i. i < length xs)) c.in_ok-categories.ensures.walked.read c.requires.inside in
    let front = take c.gap-first.result.0 words ++ new_words c.args.kind c.args.content.now ++ take (c.in_ok-categories.end - c.gap-first.result.1) (drop c.gap-first.result.1 words) in
    splice_is (λ v. v.items) words c.args.member c.args.kind c.args.content.now ms front c.rebuilt.result c.requires.least c.in_ok-categories.ensures.walked.read
    (front_is words c.in_ok-categories.end c.args.member ms c.gap-first.result c.args.kind c.args.content.now g inside c.requires.content) c.rebuilt.ensures

pub returns-clause-edit : goal.returns-clause-edit
returns-clause-edit c = splice_edits (λ v. v.items) c.args.words.now c.args.member c.args.kind c.args.content.now c.rebuilt.result c.requires.least c.requires.kind c.requires.content (returns-clause-exact c)
