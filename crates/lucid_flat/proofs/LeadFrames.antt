-- The datons that a sound table visits.
use Rattle.lucid_flat.proofs.SoundCommon.{ℕ, suc, Some, sym, ap, subst, option_map, In, Elements, Context, Daton, visits, equations_of, NameIs, IsSound, Entry, Plain, Parameter, Current, Called, NameRow, Table, Fits, DatonFits}
use Rattle.lucid_equations.specs.Visits.{visited_datons}
use Rattle.lucid_equations.specs.Rows.{name_at}
use Rattle.lucid_equations.proofs.Needs.{gone-to}
use Rattle.lucid_flat.specs.Fits.{HasFrameFor}
use Rattle.lucid_flat.proofs.LeadCuts.{called-frame, frozen-frame}
use Rattle.lucid_flat.proofs.LeadSteps.{met-placed, goes-right}
use Rattle.lucid_flat.proofs.LeadWalks.{visited-met}

module _ (T : Table) (sound : IsSound T) where
  pub visited-fits : (b : Elements) (m d t s : ℕ) (k : Daton × ℕ) → In k (visited_datons (equations_of T) b m d t s) → DatonFits T k.0
  visited-fits b m d t s k i =
      let g = gone-to k.0 k.1 (visits (equations_of T) b m d t s) i in
      let z = visited-met (equations_of T) b m d t s k.0 g.position g.time k.1 g.there in
      (goes-right T sound z.node z.context z.from k.0 g.position g.time (met-placed T sound b m d t s (suc z.left) z.node z.context z.from k.1 z.met) z.aim).0

  frame-for : (n s : ℕ) (e : Entry) (c : Context) → NameIs T n s e → Fits T c s → HasFrameFor (Some e) c
  frame-for n s (Plain a) c named fits = tt
  frame-for n s (Parameter i) c named fits =
      let h = sound.bodies n s (Parameter i) named in subst (HasFrameFor (Some (Parameter i))) (sym (called-frame T sound.scopes c s h.0 h.1 fits).is) tt
  frame-for n s (Called a) c named fits =
      let h = sound.bodies n s (Called a) named in subst (HasFrameFor (Some (Called a))) (sym (called-frame T sound.scopes c s h.0 h.1 fits).is) tt
  frame-for n s (Current a) c named fits =
      let h = sound.bodies n s (Current a) named in subst (HasFrameFor (Some (Current a))) (sym (frozen-frame T sound.scopes c s h.0 h.1 fits).is) tt

  pub fitting-frame : (k : Daton) → DatonFits T k → HasFrameFor (name_at T k.name) k.context
  fitting-frame k h =
      subst (λ o. HasFrameFor o k.context) (sym (ap (option_map (λ (r : NameRow). r.kind)) h.named)) (frame-for k.name h.scope h.entry k.context h.named h.fits)
