use Rattle.vfs_core.proofs.Words.{ap, ◌∙◌, option_copied, nat_list_eq_equiv, has_path}
use Rattle.vfs_core.proofs.PathLemmas.{place_kept}
use Rattle.vfs_core.proofs.files.follow.Goals as goal

pub set-requires : goal.set-requires
set-requires c =
    let path = c.in-Some.row.now.path in
    place_kept c.args.paths.now path c.args.id
    (c.requires.kept path (ap (λ o. has_path path (option_copied o)) c.in-Some.is ∙ nat_list_eq_equiv.refl path))
