-- What is made for a job before it is run.
-- Not trusted: no promise is read with it.
use Rattle.std.specs.Prelude.{◌≡◌, ℕ, Some, string_bytes}
use Rattle.rvc_io.specs.MemLibrary.{LibraryState}
use Rattle.rvc_words.specs.Words.{job_text}
use Rattle.rvc_words.specs.declared.job.Job.{Job}
use Rattle.cmd_gen_network.specs.Texts.{files_of}
use Rattle.cmd_gen.specs.Jobs.{generated_job, instances_of}

-- the job that is run for this one, and the files of its network
pub record IsMadeFor (job made : Job) (library : LibraryState) (instances : ℕ) : Type 0 where
  pub job_is : job_text made ≡ generated_job (job_text job)
  pub number : instances_of (string_bytes job.top) ≡ Some instances
  pub files : library.files ≡ files_of instances
