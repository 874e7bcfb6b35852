-- `chosen::make` meets its contract. Assumes nothing.
use Rattle.rows.specs.Given.{standing, earlier, areas, net-accepted}
use Rattle.walks.specs.Code.{start-room}
use Rattle.chosen.proofs.make.Goals as goal

pub link_back-requires-clause-standing : goal.link_back-requires-clause-standing
link_back-requires-clause-standing c = standing c.requires.passed

pub link_back-requires-clause-earlier : goal.link_back-requires-clause-earlier
link_back-requires-clause-earlier c = earlier c.requires.passed

pub seen-requires-clause-given : goal.seen-requires-clause-given
seen-requires-clause-given c =
    let p = c.requires.passed in
    record { standing = standing p; types_long = (areas p).types_fit; accepted = net-accepted p; linked = c.link_back.ensures }

pub seen-requires-clause-has_room : goal.seen-requires-clause-has_room
seen-requires-clause-has_room c =
    let net = c.args.net.now in
    start-room net.rows.now net.due.now net.types.now net.type_count net.row_count (net-accepted c.requires.passed) c.args.row c.requires.row_lt_n
