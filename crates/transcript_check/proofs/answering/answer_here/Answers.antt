use Rattle.transcript_check.proofs.answering.answer_here.Goals as goal

pub group_refusal-requires : goal.group_refusal-requires
group_refusal-requires c = (rw c.in-Group.is at c.requires).1
