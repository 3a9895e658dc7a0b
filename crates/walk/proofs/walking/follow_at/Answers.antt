use Rattle.walk.proofs.walking.follow_at.Goals as goal

pub returns-in-Request : goal.returns-in-Request
returns-in-Request g c =
    let done = c.follow_need.ensures in
    record { follows = done.follows; grown = done.grown; come = rw c.in-Request.is done.come; met = rw c.in-Request.is done.met; unmet = rw c.in-Request.is done.unmet }

pub returns-in-Version : goal.returns-in-Version
returns-in-Version g c =
    let done = c.follow_dependency.ensures in
    record { follows = done.follows; grown = done.grown; come = rw c.in-Version.is done.come; met = rw c.in-Version.is done.met; unmet = rw c.in-Version.is done.unmet }
