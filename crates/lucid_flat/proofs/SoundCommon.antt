-- What the proofs of sound tables take of std, and what two of them or more cite of other modules, passed on from one place. Declares nothing.
pub use Rattle.lucid_equations.proofs.NodeAims.{no_aim}
pub use Rattle.lucid_equations.specs.Datons.{Daton, NodeAim, NodePosition, node_aim}
pub use Rattle.lucid_equations.specs.Nodes.{Equations, PlainNode, freeze, input, invoke, part_of, refer, reference, row}
pub use Rattle.lucid_equations.specs.Ranges.{EachBelow, IsInRange}
pub use Rattle.lucid_equations.specs.Rows.{equations_of, node_at, parts}
pub use Rattle.lucid_equations.specs.Sound.{CallLeads, EachStandsIn, EntryStands, HasDepth, IsRound, IsSound, NameIs, ReferenceLeads, ScopeIs, StandsIn}
pub use Rattle.lucid_equations.specs.Sound.HasDepth.{outermost}
pub use Rattle.lucid_equations.specs.Sound.IsRound.{further, itself}
pub use Rattle.lucid_equations.specs.Visits.{visits}
pub use Rattle.lucid_equations.specs.declared.rows.Entry.{Entry}
pub use Rattle.lucid_equations.specs.declared.rows.Entry.TheVariants.{Called, Current, Parameter, Plain}
pub use Rattle.lucid_equations.specs.declared.rows.NameRow.{NameRow}
pub use Rattle.lucid_equations.specs.declared.rows.Node.TheVariants.{Call, Const, Freeze, Input, Refer}
pub use Rattle.lucid_equations.specs.declared.rows.NodeRow.{NodeRow}
pub use Rattle.lucid_equations.specs.declared.rows.PlaceRow.{PlaceRow}
pub use Rattle.lucid_equations.specs.declared.rows.ScopeKind.{ScopeKind}
pub use Rattle.lucid_equations.specs.declared.rows.ScopeRow.{ScopeRow}
pub use Rattle.lucid_equations.specs.declared.table.Table.{Table}
pub use Rattle.lucid_flat.specs.Fits.{DatonFits, Fits}
pub use Rattle.lucid_flat.specs.Fits.Fits.{called, empty, frozen}
pub use Rattle.lucid_flat.specs.SoundForms.{ArePartsRight, EntryFits}
pub use Rattle.lucid_flat.specs.Met.{IsMet}
pub use Rattle.lucid_flat.specs.Met.IsMet.{gone_on, part, subject, the_root}
pub use Rattle.lucid_flat.specs.Nests.{IsNestOf}
pub use Rattle.lucid_flat.specs.Wants.{wanted}
pub use Rattle.lucid_flat.specs.WrongRows.{AllRight, IsFirstWrong, NameIsRight, NodeIsRight, PlaceIsRight, RowsAreRight, ScopeIsRight}
pub use Rattle.lucid_flat.specs.WrongRows.IsFirstWrongRow.{no_scopes, wrong_name, wrong_node, wrong_place, wrong_root, wrong_scope}
pub use Rattle.lucid_tags.specs.Contexts.{Context, call_frame, frozen_frame, root}
pub use Rattle.lucid_tree.specs.Levels.{Elements, element_of, goes_to, nowhere}
pub use Rattle.lucid_tree.specs.Members.{In}
pub use Rattle.std.proofs.Common.{Bool, List, None, Option, Some, [], ap, arith, drop, get_or, inl, inr, is_some, length, length-append, max, refl, slice_get, slice_index, subst, suc, sym, true, zero, ℕ, ◌++◌, ◌+◌, ◌-◌, ◌<◌, ◌==◌, ◌↔◌, ◌∙◌, ◌∷◌, ◌≡◌, ◌≢◌, ◌≤◌}
pub use Rattle.std.proofs.lemmas.Bool.{both_ways, cases_eq, eq-eqb, eqb-false, eqb-true, false≢true, leb-true}
pub use Rattle.std.proofs.lemmas.List.{get_or_append_left, get_or_push, get_or_read, nil_from_length}
pub use Rattle.std.proofs.lemmas.Option.{MatchOption-at_some, none-some, same_Some, slice_get-get_or, slice_get_read, slice_get_within}
pub use Rattle.std.specs.Option.{option_map}
