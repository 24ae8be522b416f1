use Rattle.lucid_parse.proofs.build.Piles.put.Goals as goal

pub returns-in-Const : goal.returns-in-Const
returns-in-Const c = rw c.in-Const.is c.put_const.ensures

pub returns-in-Name : goal.returns-in-Name
returns-in-Name c = rw c.in-Name.is c.put_name.ensures

pub returns-in-Operator : goal.returns-in-Operator
returns-in-Operator c = rw c.in-Operator.is c.put_operator.ensures

pub returns-in-NoTrees : goal.returns-in-NoTrees
returns-in-NoTrees c = rw c.in-NoTrees.is c.put_no_trees.ensures

pub returns-in-More : goal.returns-in-More
returns-in-More c = rw c.in-More.is c.put_more.ensures

pub returns-in-Call : goal.returns-in-Call
returns-in-Call c = rw c.in-Call.is c.put_call.ensures

pub returns-in-NoNames : goal.returns-in-NoNames
returns-in-NoNames c = rw c.in-NoNames.is c.put_no_names.ensures

pub returns-in-Param : goal.returns-in-Param
returns-in-Param c = rw c.in-Param.is c.put_param.ensures

pub returns-in-NoDefs : goal.returns-in-NoDefs
returns-in-NoDefs c = rw c.in-NoDefs.is c.put_no_defs.ensures

pub returns-in-Def : goal.returns-in-Def
returns-in-Def c = rw c.in-Def.is c.put_def.ensures

pub returns-in-Block : goal.returns-in-Block
returns-in-Block c = rw c.in-Block.is c.put_block.ensures
