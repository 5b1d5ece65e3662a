use Rattle.site_file.proofs.Words.{one_file, word_is_durable, word_may_hold_anything, words_are_durable}
use Rattle.site_file.proofs.laws.word_is_kept.Goals as goal

pub returns-clause-others : goal.returns-clause-others
returns-clause-others c = one_file

pub returns-clause-durable : goal.returns-clause-durable
returns-clause-durable c = word_is_durable

pub returns-clause-at_each_moment : goal.returns-clause-at_each_moment
returns-clause-at_each_moment c = word_may_hold_anything

pub returns-clause-all : goal.returns-clause-all
returns-clause-all c = words_are_durable
