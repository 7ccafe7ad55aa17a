use Rattle.base_sha.proofs.schedule.spread.Goals as goal

pub returns : goal.returns
returns c =
    let group = c.args.group.now in
    c.extend_by_twenty-3.ensures group (c.extend_by_twenty-2.ensures group (c.extend_by_twenty.ensures group
    (c.extend-4.ensures group (c.extend-3.ensures group (c.extend-2.ensures group (c.extend.ensures group c.load.ensures))))))
