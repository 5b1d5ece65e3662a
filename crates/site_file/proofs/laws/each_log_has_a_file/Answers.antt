use Rattle.site_file.proofs.Possible.{something_becomes, any_word_may_be_left}
use Rattle.site_file.proofs.laws.each_log_has_a_file.Goals as goal

pub returns-clause-becomes : goal.returns-clause-becomes
returns-clause-becomes c = something_becomes

pub returns-clause-torn : goal.returns-clause-torn
returns-clause-torn c = any_word_may_be_left
