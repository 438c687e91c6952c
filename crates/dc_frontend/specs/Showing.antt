-- Which questions are shown (debconf-devel(7), INPUT).
use Rattle.std.specs.Prelude.{Bool, true, false, not, ◌&&◌, nat_le}
use Rattle.dc_proto.specs.Priorities.{rank}
use Rattle.dc_proto.specs.declared.priority.Priority.{Priority}
use Rattle.dc_template.specs.declared.kinds.Kind.{Kind}
use Rattle.dc_template.specs.declared.kinds.Kind.TheVariants.{Error, Title}

-- An error is always shown, and a title never. Any other question is shown where its priority is at least the threshold and it wasn't seen.
abbrev pub is_shown : Priority → Priority → Kind → Bool → Bool
is_shown threshold priority Error seen = true
is_shown threshold priority Title seen = false
is_shown threshold priority kind seen = nat_le (rank threshold) (rank priority) && not seen
