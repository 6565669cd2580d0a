use Rattle.reader.specs.KindNames.{kind_names}
use Rattle.reader.proofs.tree.kind_name.Goals as goal

-- the two tables of names are the same
pub returns : goal.returns
unfolding kind_names
returns c = c.text_at.ensures
