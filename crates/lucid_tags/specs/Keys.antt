-- Equality of keys, as a test.
use Rattle.std.specs.Prelude.{Bool, ◌==◌, ◌&&◌}
use Rattle.lucid_tags.specs.Known.{same_tag}
use Rattle.lucid_tags.specs.declared.Key.{Key}

-- two keys are the same: the same name, tag and time
abbrev pub same_key : Key → Key → Bool
same_key a b = (a.name == b.name) && (same_tag a.tag b.tag && (a.time == b.time))
