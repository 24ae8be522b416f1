use Rattle.std.proofs.Common.{◌≡◌, ◌++◌, drop}
use Rattle.lucid_show_outline.specs.Views.{view_of}
use Rattle.lucid_show_drawing.specs.Shown.{test_entries}
use Rattle.lucid_show_drawing.proofs.asked.add_tests.Given as goal

-- those so far, and those that are left
abbrev pub invariant-loop-test : goal.invariant-loop-test
invariant-loop-test l =
    l.entries.items ++ test_entries (view_of l.source) (drop l.test-index l.tests) ≡ l.initial.entries.items ++ test_entries (view_of l.source) l.tests
