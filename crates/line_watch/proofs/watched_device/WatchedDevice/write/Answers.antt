use Rattle.line_watch.proofs.watched_device.WatchedDevice.write.Goals as goal

pub returns : goal.returns
returns g c = λ old new given running inside wrote reported followed.
    c.write.ensures old new given running inside wrote reported (rw c.note_write.ensures followed)
