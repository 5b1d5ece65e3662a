use denote.Param.Send.{sendable}
use Rattle.site_mem.proofs.Sent.{site-send}
use Rattle.desk_tests.proofs.session.try_serve.Goals as goal

pub serve_line-requires-send-S : goal.serve_line-requires-send-S
serve_line-requires-send-S g c κs lives = search (site-send, sendable) depth 40
