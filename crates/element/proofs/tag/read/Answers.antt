use Rattle.element.proofs.Tagging.{tag_of, tag_in, no_tag, no_tag_in}
use Rattle.markup.proofs.Tags.{head_at, head_not_at}
use Rattle.element.proofs.tag.read.Goals as goal

pub returns-in_default : goal.returns-in_default
returns-in_default c = record { within = no_tag_in _; tells = λ depth v after x. no_tag (head_not_at c.in_default.ensures) x }

pub read_carried-requires : goal.read_carried-requires
read_carried-requires c = (head_at c.in-Some.ensures).named.high

pub close-requires : goal.close-requires
close-requires c = c.read_carried.ensures.within.high

pub returns : goal.returns
returns c =
    let h = head_at c.in-Some.ensures in record { within = tag_in h c.read_carried.result c.close.result c.read_carried.ensures.within c.read_carried.ensures.tells c.close.ensures; tells = tag_of h c.read_carried.result c.close.result c.read_carried.ensures.within c.read_carried.ensures.tells c.close.ensures }
