use Rattle.std.proofs.Common.{inl, inr, refl}
use Rattle.td_shell.proofs.Members.{refused_for}
use Rattle.td_shell.proofs.running.run.Goals as goal

pub begin_or_open-requires-clause-small : goal.begin_or_open-requires-clause-small
begin_or_open-requires-clause-small g c = c.requires.member.few

pub begin_or_open-requires-clause-within : goal.begin_or_open-requires-clause-within
begin_or_open-requires-clause-within g c = c.requires.member.within

pub talk-status-requires : goal.talk-status-requires
talk-status-requires g c = c.in-Ok.ensures.kept

pub returns-in-Ok : goal.returns-in-Ok
returns-in-Ok g c =
    inl (record {
      old = c.in-Ok.kept;
      new = c.talk-status.new.kept;
      opened = record {
        all_kept = c.in-Ok.ensures.kept;
        site_is = c.in-Ok.ensures.site;
        size_is = c.in-Ok.ensures.size;
        begun = c.in-Ok.ensures.begun;
        opened = c.in-Ok.ensures.opened;
        any_moment = c.in-Ok.ensures.any_moment;
      };
      talk = c.talk-status.ensures;
      disk_is = c.into_disk.ensures;
    })

pub returns-in-Err : goal.returns-in-Err
returns-in-Err g c =
    inr (record {
      why = c.in-Err.refused.why;
      refused = record {
        caused = refused_for g.K.Disk c.args.member.site c.args.member.sites c.args.disk c.in-Err.refused.disk
            c.in-Err.refused.why c.in-Err.ensures.bad c.in-Err.ensures.disk;
        any_moment = c.in-Err.ensures.any_moment_err;
      };
      status_is = c.status_of_refused.ensures;
      unread = refl;
      unput = refl;
    })
