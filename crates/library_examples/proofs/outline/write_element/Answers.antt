-- `library_examples::outline::write_element` is safe.
use Rattle.library_examples.proofs.outline.write_element.Goals as goal

pub slice_bounds-put-count : goal.slice_bounds-put-count
slice_bounds-put-count c = c.requires.name

pub slice_bounds-put-start : goal.slice_bounds-put-start
slice_bounds-put-start c = c.requires.name

pub slice_bounds-put-end : goal.slice_bounds-put-end
slice_bounds-put-end c = c.requires.past

pub write_attributes-requires : goal.write_attributes-requires
write_attributes-requires c = c.requires.past
