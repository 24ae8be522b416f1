-- What a reference goes on with, once that is found: its daton and its body.
use Rattle.lucid_demand_steps.proofs.DecidingCommon.{ℕ, suc, List, sym, ap, ◌∙◌, nowhere, Context, context_of, Task, NodeAim, node_at, Table, PlainTask, plain_task, aim_of_task, plain_aim, Aim}
use Rattle.std.proofs.Common.{◌≡◌, Some}
use Rattle.lucid_tree.specs.Levels.{goes_to}
use Rattle.lucid_equations.specs.Datons.{Daton}
use Rattle.lucid_demand_steps.specs.Tasks.{DatonAt, plain_key}
use Rattle.lucid_demand_steps.specs.Parts.{RefersTo, GoesTo}
use Rattle.lucid_demand_steps.specs.Aims.{IsAim}

-- the task of an aim's body
abbrev pub body_task : Aim → (depth : ℕ) → Task
body_task a depth = record { node = a.body; tag = a.tag; time = a.time; depth = depth }

module _ (T : Table) (known : List Context) (x : PlainTask) (a : Aim) (is : plain_aim T known (Some a) ≡ aim_of_task T x) (there : IsAim T known x.space a)
  where
    -- the reference is of the aim's daton,
    pub aim_refers : RefersTo T x (plain_key known a.key)
    aim_refers = record {
      position = record { node = node_at T a.body; context = context_of known a.tag };
      time = a.time;
      aim = sym is;
      space = there.key_space;
    }

    -- and goes on with the aim's body.
    pub aim_goes : (depth : ℕ) → x.limit ≡ suc depth → GoesTo T x (plain_key known a.key) (plain_task known (body_task a depth))
    aim_goes depth limit = record { aim = sym is; space = there.key_space; same_space = there.same_space; limit = limit; there = there.body }

abbrev daton_of : Daton → NodeAim → Daton
daton_of k (goes_to d y u) = d
daton_of k _ = k

-- a task is a reference of one daton
pub refers_to_one : (T : Table) (x : PlainTask) (j k : DatonAt) → RefersTo T x j → RefersTo T x k → j ≡ k
refers_to_one T x j k q r =
    let name : j.0 ≡ k.0 = ap (daton_of k.0) (sym q.aim ∙ r.aim) in
    let space : j.1 ≡ k.1 = q.space ∙ sym r.space in
    ap (λ n. (n, j.1)) name ∙ ap (λ s. (k.0, s)) space

-- and of none where it leads nowhere
pub refers_nowhere : (T : Table) (x : PlainTask) (k : DatonAt) → aim_of_task T x ≡ nowhere → RefersTo T x k → ⊥
refers_nowhere T x k e r = let both : nowhere ≡ goes_to k.0 r.position r.time = sym e ∙ r.aim in cc
