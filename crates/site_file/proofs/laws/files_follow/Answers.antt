use Rattle.site_file.proofs.FollowingWords.{begins_to_follow, follows_on, site_is_followed}
use Rattle.site_file.proofs.laws.files_follow.Goals as goal

pub returns-clause-begins : goal.returns-clause-begins
returns-clause-begins g c = begins_to_follow _

pub returns-clause-goes_on : goal.returns-clause-goes_on
returns-clause-goes_on g c = follows_on _

pub returns-clause-site : goal.returns-clause-site
returns-clause-site g c = site_is_followed _
