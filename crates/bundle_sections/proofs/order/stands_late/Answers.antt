use Rattle.std.proofs.Common.{◌∙◌, tests, rules}
use Rattle.std.proofs.lemmas.Iterator.Search.{any_from_yields_List}
use Rattle.std.proofs.lemmas.Iterator.{YieldsList-from_slice}
use Rattle.bundle_sections.specs.Headers.{cannot_follow}
use Rattle.bundle_sections.specs.Said.{said_header}
use Rattle.bundle_sections.proofs.Places.{any-map}
use Rattle.bundle_sections.proofs.order.stands_late.Goals as goal

pub returns : goal.returns
returns c =
    any_from_yields_List (λ s. cannot_follow (said_header c.args.header.now) (said_header s.header)) _ _ _ c.any.ensures.ran (YieldsList-from_slice c.args.before.now cc) (λ x b q k. search (rules, tests))
    ∙ any-map (cannot_follow (said_header c.args.header.now)) c.args.before.now
