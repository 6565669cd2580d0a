use Rattle.std.proofs.Common.{rules, ap, ◌∙◌, arith}
use Rattle.file.specs.TokenFile.{joint_word, written}
use Rattle.file.proofs.Fronts.{written_by}
use Rattle.file.proofs.Joint.{joint_bits}
use Rattle.file.proofs.read_file.Goals as goal

pub returns-clause-reads : goal.returns-clause-reads
returns-clause-reads c = record {
  answer = search rules;
  room = search rules;
  kinds_read = written_by _ _ _ _ (search rules) (λ i d h. let e = c.write_front.ensures.front i d h in search rules) c.write_front.ensures.rest;
  contextual_read = written_by _ _ _ _ (search rules) (λ i d h. let e = c.write_front-2.ensures.front i d h in search rules) c.write_front-2.ensures.rest;
  joint_read =
      written_by _ _ _ _ (search rules) (λ i d h. let e = c.write_front-3.ensures.front i d h in search rules) c.write_front-3.ensures.rest
      ∙ ap (λ w. written (joint_word c.args.bytes.now c.in_ok-file.file.count) w c.args.columns.joint.now) (omega arith);
  editions_read = written_by _ _ _ _ (search rules) (λ i d h. let e = c.write_front-4.ensures.front i d h in search rules) c.write_front-4.ensures.rest;
}

pub returns-clause-joint_bits : goal.returns-clause-joint_bits
returns-clause-joint_bits c = joint_bits _ _ _ _ (returns-clause-reads c)
