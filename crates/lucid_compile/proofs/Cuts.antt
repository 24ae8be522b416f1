-- Levels are numbers of frames, and cutting a context at a level gives the context from an entry on.
use Rattle.lucid_compile.proofs.Common.{◌≡◌, ℕ, suc, ◌≤◌, Bool, true, false, Some, None, refl, ap, ◌∙◌, if◌then◌else◌, arith, Env, empty, scope, args, Context, call_frame, frozen_frame, frames, cut, freezes, level, Numbers, Source, static_of, context_for, Shape, Good, Equations, cut-call_frame, cut-frozen_frame, cut-frames, cut-above}

-- the second context is the first, without some inner frames
abbrev pub Outward : Context → Context → Type 0
Outward c f = (l : ℕ) → l ≤ frames f → cut l c ≡ cut l f

pub outward-call : (c : Context) (p : ℕ) (cc f : Context) → Outward c (call_frame p cc f) → Outward c f
outward-call c p cc f h l b = h l (omega arith) ∙ cut-call_frame l p cc f b

pub outward-frozen : (c : Context) (u : ℕ) (f : Context) → Outward c (frozen_frame u f) → Outward c f
outward-frozen c u f h l b = h l (omega arith) ∙ cut-frozen_frame l u f b

-- cutting at its level gives it
pub outward-cut : (c f : Context) → Outward c f → cut (frames f) c ≡ Some f
outward-cut c f h = h (frames f) (omega arith) ∙ cut-frames f

-- one level above all frames there is nothing
pub cut-past : (c : Context) → cut (suc (frames c)) c ≡ None
cut-past c = cut-above c (suc (frames c)) (omega arith)

module _ (nu : Numbers) (so : Source) (p : Equations) where
  unframed : (b : Bool) (n : ℕ) → Shape nu so p None b → (if b then suc n else n) ≡ n
  unframed true n h = absurd h
  unframed false n h = refl

  framed : (b : Bool) (t n : ℕ) → Shape nu so p (Some t) b → (if b then suc n else n) ≡ suc n
  framed true t n h = refl
  framed false t n h = absurd h

  pub frames-level : (env : Env) → Good nu so p env → level (static_of env) ≡ frames (context_for nu env)
  frames-level empty g = refl
  frames-level (scope ds None env) g = unframed (freezes ds) (level (static_of env)) g.0 ∙ frames-level env g.2
  frames-level (scope ds (Some t) env) g = framed (freezes ds) t (level (static_of env)) g.0 ∙ ap suc (frames-level env g.2)
  frames-level (args ns ats es caller env) g = ap suc (frames-level env g.4)
