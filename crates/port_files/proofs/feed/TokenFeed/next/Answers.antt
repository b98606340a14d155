use Rattle.port_files.proofs.Given.{given}
use Rattle.port_files.proofs.feed.TokenFeed.next.Goals as goal

pub returns-clause-token : goal.returns-clause-token
returns-clause-token g c =
    given c.give.result c.args.self.now.kind c.gather.new.self.kind c.args.self.now.pulled c.gather.new.self.pulled c.give.new.self.pulled ((g.F.Feeds.feeds c.args.feeds.now).left c.args.feed) ((g.F.Feeds.feeds c.gather.new.feeds).left c.args.feed) c.gather.new.self.ended c.in-Ok.ensures.kind c.in-Ok.ensures.coming c.give.ensures.token
