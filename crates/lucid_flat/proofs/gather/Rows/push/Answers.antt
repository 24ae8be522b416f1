use Rattle.lucid_flat.proofs.Common.{◌≡◌, ◌<◌, ◌≤◌, ◌+◌, ◌^◌, [], ◌∷◌, ◌++◌, Bool, length, refl, ap, MatchBool, IfOk-weaker, table_of, part_in, plain_row}
use Rattle.lucid_flat.specs.Gathered.{part_number}
use Rattle.lucid_flat.proofs.Gathering.{scopes_pushed, inputs_pushed, constants_pushed, nodes_pushed, names_pushed, places_pushed, root_pushed}
use Rattle.lucid_flat.proofs.gather.Rows.push.Goals as goal

pub returns-in-Scope : goal.returns-in-Scope
returns-in-Scope c =
    let s = c.args.self.now in
    IfOk-weaker c.push_few.result (λ (added : Bool).
    MatchBool added ((c.push_few.new.items.items ≡ s.scopes.items ++ c.in-Scope.row ∷ []) × (length s.scopes.items + 1 < 2 ^ 32))
    (2 ^ 32 ≤ length s.scopes.items + 1)) _
    (λ added h. scopes_pushed (table_of s) (part_in s) (part_number c.part_of-self.result) c.push_few.new.items.items c.in-Scope.row added
    (plain_row c.args.row) (ap plain_row c.in-Scope.is) c.requires.begun c.requires.order c.part_of-self.ensures c.requires.fits h)
    c.push_few.ensures

pub returns-in-Node : goal.returns-in-Node
returns-in-Node c =
    let s = c.args.self.now in
    IfOk-weaker c.push_few-in-Node.result (λ (added : Bool).
    MatchBool added ((c.push_few-in-Node.new.items.items ≡ s.nodes.items ++ c.in-Node.row ∷ []) × (length s.nodes.items + 1 < 2 ^ 32))
    (2 ^ 32 ≤ length s.nodes.items + 1)) _
    (λ added h. nodes_pushed (table_of s) (part_in s) (part_number c.part_of-self.result) c.push_few-in-Node.new.items.items c.in-Node.row added
    (plain_row c.args.row) (ap plain_row c.in-Node.is) c.requires.begun c.requires.order c.part_of-self.ensures c.requires.fits h)
    c.push_few-in-Node.ensures

pub returns-in-Name : goal.returns-in-Name
returns-in-Name c =
    let s = c.args.self.now in
    IfOk-weaker c.push_few-in-Name.result (λ (added : Bool).
    MatchBool added ((c.push_few-in-Name.new.items.items ≡ s.names.items ++ c.in-Name.row ∷ []) × (length s.names.items + 1 < 2 ^ 32))
    (2 ^ 32 ≤ length s.names.items + 1)) _
    (λ added h. names_pushed (table_of s) (part_in s) (part_number c.part_of-self.result) c.push_few-in-Name.new.items.items c.in-Name.row added
    (plain_row c.args.row) (ap plain_row c.in-Name.is) c.requires.begun c.requires.order c.part_of-self.ensures c.requires.fits h)
    c.push_few-in-Name.ensures

pub returns-in-Place : goal.returns-in-Place
returns-in-Place c =
    let s = c.args.self.now in
    IfOk-weaker c.push_few-in-Place.result (λ (added : Bool).
    MatchBool added ((c.push_few-in-Place.new.items.items ≡ s.places.items ++ c.in-Place.row ∷ []) × (length s.places.items + 1 < 2 ^ 32))
    (2 ^ 32 ≤ length s.places.items + 1)) _
    (λ added h. places_pushed (table_of s) (part_in s) (part_number c.part_of-self.result) c.push_few-in-Place.new.items.items c.in-Place.row added
    (plain_row c.args.row) (ap plain_row c.in-Place.is) c.requires.begun c.requires.order c.part_of-self.ensures c.requires.fits h)
    c.push_few-in-Place.ensures

pub returns-in-Constant : goal.returns-in-Constant
returns-in-Constant c =
    let s = c.args.self.now in
    IfOk-weaker c.push_few-in-Constant.result (λ (added : Bool).
    MatchBool added ((c.push_few-in-Constant.new.items.items ≡ s.constants.items ++ c.in-Constant.value ∷ []) × (length s.constants.items + 1 < 2 ^ 32))
    (2 ^ 32 ≤ length s.constants.items + 1)) _
    (λ added h. constants_pushed (table_of s) (part_in s) (part_number c.part_of-self.result) c.push_few-in-Constant.new.items.items s.constants.items
    c.in-Constant.value added (plain_row c.args.row) (ap plain_row c.in-Constant.is) refl c.requires.begun c.requires.order c.part_of-self.ensures
    c.requires.fits h)
    c.push_few-in-Constant.ensures

pub returns-in_ok-push-in-Input : goal.returns-in_ok-push-in-Input
returns-in_ok-push-in-Input c =
    let s = c.args.self.now in
    inputs_pushed (table_of s) (part_in s) (part_number c.part_of-self.result) c.push.new.self.items c.in-Input.name (plain_row c.args.row)
    (ap plain_row c.in-Input.is) c.requires.begun c.requires.order c.part_of-self.ensures c.requires.fits c.in_ok-push-in-Input.ensures.items

pub returns-in-Root : goal.returns-in-Root
returns-in-Root c =
    let s = c.args.self.now in root_pushed (table_of s) (part_in s) c.in-Root.root (plain_row c.args.row) (ap plain_row c.in-Root.is) c.requires.begun
    c.requires.order c.requires.fits
