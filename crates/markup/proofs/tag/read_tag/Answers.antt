-- `markup::tag::read_tag` meets its contract.
use Rattle.text.proofs.Reading.{good}
use Rattle.markup.specs.Tags.{empty_tag, open_tag, no_tag}
use Rattle.markup.proofs.Tags.{head_at, head_not_at, tag-not, no_attributes, no_end}
use Rattle.markup.proofs.tag.read_tag.Goals as goal

pub returns-in_err-head : goal.returns-in_err-head
returns-in_err-head c = tag-not c.from_residual.ensures (no_tag (head_not_at c.in_err-head.ensures))

pub read_attributes-requires : goal.read_attributes-requires
read_attributes-requires c = (head_at c.in_ok-head.ensures).named.high

pub returns-in_err-attributes_end : goal.returns-in_err-attributes_end
returns-in_err-attributes_end c =
    tag-not c.from_residual-in_err-attributes_end.ensures (no_attributes (head_at c.in_ok-head.ensures) c.in_err-attributes_end.ensures)

pub skip_space-closing-requires : goal.skip_space-closing-requires
skip_space-closing-requires c = (good c.in_ok-attributes_end.ensures).high

pub returns-in-Some : goal.returns-in-Some
returns-in-Some c =
    empty_tag _ _ _ _ (record { begins = head_at c.in_ok-head.ensures; stop = _; attrs = good c.in_ok-attributes_end.ensures; gap = c.skip_space-closing.ensures }) (good c.in-Some.ensures)

pub returns-in_err-end : goal.returns-in_err-end
returns-in_err-end c =
    tag-not c.from_residual-in_err-end.ensures
    (no_end (record { begins = head_at c.in_ok-head.ensures; stop = _; attrs = good c.in_ok-attributes_end.ensures; gap = c.skip_space-closing.ensures }) c.in_default.ensures c.in_err-end.ensures)

pub returns : goal.returns
returns c =
    open_tag _ _ _ _ (record { begins = head_at c.in_ok-head.ensures; stop = _; attrs = good c.in_ok-attributes_end.ensures; gap = c.skip_space-closing.ensures }) c.in_default.ensures (good c.in_ok-end.ensures)
