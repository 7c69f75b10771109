pub mod WholeReports
pub mod HeadlineMet
