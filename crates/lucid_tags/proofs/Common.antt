-- What the proofs of this crate take of std, and what two of them or more cite of other modules, passed on from one place. Declares nothing.
pub use Rattle.lucid_tags.specs.Contexts.{Context, IsOuter, base_of, context_at, cut, frames, frozen_frame, root}
pub use Rattle.lucid_tags.specs.Rows.{AreDistinct, AreRows, IsDepth, contexts, row_context}
pub use Rattle.lucid_tags.specs.contracts.rows.RowPartialEq.TheImpl.{eq-value}
pub use Rattle.lucid_tags.specs.declared.rows.Depth.{Depth}
pub use Rattle.lucid_tags.specs.declared.rows.Row.{Row}
pub use Rattle.lucid_tags.specs.declared.rows.RowFrame.{RowFrame}
pub use Rattle.lucid_tags.specs.declared.rows.RowFrame.TheVariants.{Call, Frozen}
pub use Rattle.std.proofs.Common.{Bool, IfNone, IfSome, List, None, Option, ap, arith, false, get_or, if◌then◌else◌, inl, inr, length, length-append, not, refl, subst, suc, sym, true, zero, ℕ, ◌&&◌, ◌+◌, ◌-◌, ◌<◌, ◌==◌, ◌^◌, ◌||◌, ◌∙◌, ◌≡◌, ◌≢◌, ◌≤◌, ◌⊎◌}
pub use Rattle.std.proofs.lemmas.Bool.Decides.{nat_tests}
pub use Rattle.std.proofs.lemmas.List.{get_or_append_left}
pub use Rattle.std.proofs.lemmas.Map.Made.{IfSome-find_same}
pub use Rattle.std.proofs.lemmas.Nat.{from_le_bytes-to_le_bytes_4, from_le_bytes-to_le_bytes_8}
pub use Rattle.std.proofs.lemmas.Option.{slice_get-get_or, slice_get_read, slice_get_within}
pub use Rattle.std.specs.Bool.{Decides}
unfoldable pub use Rattle.std.specs.Hash.{le_bytes}
pub use Rattle.std.specs.List.{find, list_any}
pub use Rattle.std.specs.Prelude.{slice_get}
